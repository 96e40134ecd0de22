-- The length and the last bytes are found where nobody else writes.
use Rattle.std.proofs.Common.{◌≡◌, ℕ, zero, suc, ◌+◌, ◌-◌, ◌≤◌, List, [], ◌∷◌, ◌++◌, length, take, drop, refl, sym, ◌∙◌, ap, subst, arith, length-take, append_assoc}
use Rattle.std.proofs.lemmas.List.{take_all, drop-append-le}
use Rattle.std.proofs.Math.Seq.{drop-append-add, take-append_seam}
use Rattle.base_device.specs.Disks.{written}
use Rattle.base_device.specs.FileEnd.{KeptEnd, IsKept, end_after_write, end_after_cut}
use Rattle.base_device.proofs.Steps.{length_written}

-- the end of a piece, read where it was written
end_written : (bytes : List ℕ) (at : ℕ) (piece : List ℕ) (front : ℕ) → at ≤ length bytes → front ≤ length piece → take (length (drop front piece)) (drop (at + front) (written bytes at piece)) ≡ drop front piece
end_written bytes at piece front le inside =
    ap (λ (l : List ℕ). take n (drop (at + front) l)) (append_assoc before piece tail)
    ∙ ap (λ (k : ℕ). take n (drop (k + front) (before ++ (piece ++ tail)))) (sym same)
    ∙ ap (λ (l : List ℕ). take n l) (drop-append-add before (piece ++ tail) front ∙ drop-append-le front piece tail inside)
    ∙ take-append_seam (drop front piece) tail
  where
    n : ℕ
    n = length (drop front piece)

    before : List ℕ
    before = take at bytes

    tail : List ℕ
    tail = drop (at + length piece) bytes

    same : length (take at bytes) ≡ at
    same = omega (arith, le, length-take at bytes)

drop_of_take : (n l : ℕ) (xs : List ℕ) → drop n (take l xs) ≡ take (l - n) (drop n xs)
drop_of_take zero l xs = ap (λ (k : ℕ). take k xs) (omega arith)
drop_of_take (suc n) zero xs = let e : zero - suc n ≡ zero = omega arith in rw e refl
drop_of_take (suc n) (suc l) [] = sym (take_all (suc l - suc n) [] (omega arith))
drop_of_take (suc n) (suc l) (x ∷ xs) = let e : suc l - suc n ≡ l - n = omega arith in rw e (drop_of_take n l xs)

shorter : (m k : ℕ) (xs : List ℕ) → take (length (take m (take k xs))) (take m xs) ≡ take m (take k xs)
shorter zero k xs = refl
shorter (suc m) zero xs = refl
shorter (suc m) (suc k) [] = refl
shorter (suc m) (suc k) (x ∷ xs) = ap (λ (l : List ℕ). x ∷ l) (shorter m k xs)

pub kept_after_write : (kept : KeptEnd) (bytes : List ℕ) (at : ℕ) (piece : List ℕ) → at ≤ length bytes → IsKept kept bytes → IsKept (end_after_write kept at piece) (written bytes at piece)
kept_after_write kept bytes at piece le is = record {
  same_length = omega (arith, is.same_length, length_written bytes at piece le);
  end = end_written bytes at piece (length piece - 64) le (omega arith);
}

pub kept_after_cut : (kept : KeptEnd) (bytes : List ℕ) (len : ℕ) → len ≤ length bytes → IsKept kept bytes → IsKept (end_after_cut kept len) (take len bytes)
kept_after_cut kept bytes len le is = record {
  same_length = omega (arith, le, length-take len bytes);
  end = ap (λ (l : List ℕ). take (length (take (len - kept.at) kept.last)) l) (drop_of_take kept.at len bytes)
      ∙ subst (λ (l : List ℕ). take (length (take (len - kept.at) l)) (take (len - kept.at) (drop kept.at bytes)) ≡ take (len - kept.at) l) is.end (shorter (len - kept.at) (length kept.last) (drop kept.at bytes));
}
