-- The clauses that a disk that tells nothing owes.
use Rattle.std.proofs.Common.{◌≡◌, ℕ, ◌^◌, ◌≤◌, List, length, false, Option, None, Result, IfOk, OnOk, MatchResult, refl, arith, rules, inl}
use Rattle.std.proofs.lemmas.List.{take_all}
use Rattle.std.specs.Prelude.{⊤}
use Rattle.base_device.specs.Causes.{HasCause}
use Rattle.base_device.specs.Disks.{Torn, Cut, Stays, Elapses, Follows, unobservable}

-- a write, or a cut, that did nothing
pub torn_nothing : (at n : ℕ) (c : List ℕ) → Torn at n c c
torn_nothing at n c = record { before = refl; after = refl; no_shorter = omega arith; no_longer = omega arith }

pub cut_nothing : (n : ℕ) (c : List ℕ) → Cut n c c
cut_nothing n c = record { no_shorter = omega arith; front = take_all (length c) c (omega arith) }

pub stays_unobservable : Stays unobservable unobservable
stays_unobservable = record { reads = refl; images = λ c. (λ now. now, λ now. now); moment = refl; since = λ t c. (λ left. left, λ left. left) }

pub elapses_unobservable : Elapses unobservable unobservable
elapses_unobservable = record { later = omega arith; nothing_else = λ t c le left. inl left; keeps = λ t c le left. left }

abbrev nothing_told : Option (List ℕ)
nothing_told = None

-- what each call owes where it may read to any place, the clauses on bytes being true of none
module _ {E : Type 0} (before now : ℕ) where
  pub observable_length : (r : Result ℕ E) → IfOk r (λ n. n ≤ 2 ^ 64) → HasCause before now r → record {
    value : IfOk r (λ n. ⊤);
    readable : MatchResult r (λ n. n ≤ 2 ^ 64) (λ e. 2 ^ 64 ≤ 2 ^ 64);
    stays : Stays unobservable unobservable;
    cause : HasCause before now r;
  }
  observable_length r few cause = record { value = search rules; readable = search (rules, arith); stays = stays_unobservable; cause = cause }

  module _ {T : Type 0} (r : Result T E) (cause : HasCause before now r) where
    pub observable_read : record {
      value : OnOk r ⊤;
      readable : 2 ^ 64 ≤ 2 ^ 64;
      stays : Stays unobservable unobservable;
      cause : HasCause before now r;
    }
    observable_read = record { value = search rules; readable = omega arith; stays = stays_unobservable; cause = cause }

    pub observable_write : (at n : ℕ) → record {
      written : OnOk r (nothing_told ≡ nothing_told);
      observable : false ≡ false;
      readable : 2 ^ 64 ≤ 2 ^ 64;
      crash : Follows (Torn at n) unobservable unobservable;
      time : Elapses unobservable unobservable;
      cause : HasCause before now r;
    }
    observable_write at n = record {
      written = search rules;
      observable = refl;
      readable = omega arith;
      crash = λ left now. (left, now, torn_nothing at n left);
      time = elapses_unobservable;
      cause = cause;
    }

    pub observable_cut : (n len : ℕ) → len ≤ 2 ^ 64 → record {
      cut : OnOk r (nothing_told ≡ nothing_told);
      observable : false ≡ false;
      readable : len ≤ 2 ^ 64;
      crash : Follows (Cut n) unobservable unobservable;
      time : Elapses unobservable unobservable;
      cause : HasCause before now r;
    }
    observable_cut n len few = record {
      cut = search rules;
      observable = refl;
      readable = few;
      crash = λ left now. (left, now, cut_nothing n left);
      time = elapses_unobservable;
      cause = cause;
    }

    pub observable_sync : record {
      durable : OnOk r ⊤;
      reads : nothing_told ≡ nothing_told;
      readable : 2 ^ 64 ≤ 2 ^ 64;
      crash : (c : List ℕ) → ⊤ → ⊤;
      time : Elapses unobservable unobservable;
      cause : HasCause before now r;
    }
    observable_sync = record {
      durable = search rules;
      reads = refl;
      readable = omega arith;
      crash = λ left now. now;
      time = elapses_unobservable;
      cause = cause;
    }
