-- The bytes of a journal.
use Rattle.std.specs.Prelude.{◌≡◌, ◌⊎◌, ◌≤◌, ◌<◌, ◌^◌, ℕ, List, [], ◌∷◌, ◌++◌, length, if◌then◌else◌, ◌==◌, Option, Some, None}
use Rattle.std.specs.Int.{w16, w32, w64, to_be_bytes}

-- HYDPLAN1
abbrev pub magic : List ℕ
magic = 72 ∷ 89 ∷ 68 ∷ 80 ∷ 76 ∷ 65 ∷ 78 ∷ 49 ∷ []

-- the title of a journal: its version, the SHA-256 of its problem, its seed, and how many paths an iteration has
pub record Title : Type 0 where
  pub version : ℕ
  pub digest : List ℕ
  pub seed : ℕ
  pub batch : ℕ

-- a title that a journal may have: a head has the room for its parts
pub record IsTitle (t : Title) : Type 0 where
  pub digest : length t.digest ≡ 32
  pub seed : t.seed < 2 ^ 64
  pub version : ((t.version ≡ 1) × (t.batch ≡ 1)) ⊎ ((t.version ≡ 2) × (1 ≤ t.batch) × (t.batch ≤ 64))

-- the bytes that each version has behind the header's commit byte
abbrev pub shared_title : ℕ → List ℕ → ℕ → List ℕ
shared_title version digest seed = magic ++ to_be_bytes w16 version ++ digest ++ to_be_bytes w64 seed

-- the bytes between the header's commit byte and the first commit byte
unfoldable pub title_bytes : Title → List ℕ
title_bytes t = shared_title t.version t.digest t.seed ++ (if t.version == 2 then to_be_bytes w16 t.batch else [])

-- how many bytes the head has, its header's commit byte and the first commit byte among them
abbrev pub head_length : ℕ → ℕ
head_length version = if version == 2 then 54 else 52

-- records of these payloads: a commit byte of 1, the payload's length, the payload
unfoldable pub records : List (List ℕ) → List ℕ
records [] = []
records (p ∷ ps) = 1 ∷ to_be_bytes w32 (length p) ++ p ++ records ps

-- the bytes behind a commit byte that is opened: the payload's length, the payload, and the next commit byte, 0
unfoldable pub body_of : List ℕ → List ℕ
body_of p = to_be_bytes w32 (length p) ++ p ++ 0 ∷ []

-- the bytes before the commit byte that follows these records
abbrev pub front : Title → List (List ℕ) → List ℕ
front t ps = 1 ∷ title_bytes t ++ records ps

-- a journal of these records, a commit byte, and the rest behind it
abbrev pub journal : Title → List (List ℕ) → ℕ → List ℕ → List ℕ
journal t ps commit_byte tail = front t ps ++ commit_byte ∷ tail

-- the bytes are such a body, of at most 2^26 bytes of payload
abbrev pub IsBody : List ℕ → Type 0
IsBody bytes = (p : List ℕ) × (length p ≤ 2 ^ 26) × (bytes ≡ body_of p)

-- the title of a new journal: version 2 where an iteration has a batch of paths, else version 1
abbrev pub new_title : List ℕ → ℕ → Option ℕ → Title
new_title digest seed None = record { version = 1; digest = digest; seed = seed; batch = 1 }
new_title digest seed (Some batch) = record { version = 2; digest = digest; seed = seed; batch = batch }
