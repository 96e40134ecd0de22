-- The bytes that a read of bytes in memory leaves.
use Rattle.std.proofs.Common.{◌≡◌, ℕ, ◌+◌, ◌<◌, List, [], ◌++◌, take, drop, ap, take-append-drop}
use Rattle.std.proofs.lemmas.List.{drop-drop}

-- the bytes from a place on were those that were taken of them and those further on, and none were taken only at the end
pub read_rest : (bytes left from taken : List ℕ) (at count room : ℕ) → drop at bytes ≡ left → from ≡ drop at bytes → taken ≡ take count from → (count ≡ 0 → 0 < room → from ≡ []) → (left ≡ taken ++ drop (at + count) bytes) × (count ≡ 0 → 0 < room → drop (at + count) bytes ≡ [])
read_rest bytes left from taken at count room here is front end =
    let parts = take-append-drop count (drop at bytes) in
    let behind = drop-drop count at bytes in
    let shorter = ap (λ (l : List ℕ). take count l) is in (
      cc,
      λ none some.
          let nothing = end none some in
          let same = ap (λ n. drop n (drop at bytes)) none in
          cc,
    )
