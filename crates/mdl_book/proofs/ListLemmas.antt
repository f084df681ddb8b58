-- BookView behind a gap.
use Rattle.std.proofs.Common.{◌≡◌, ℕ, suc, zero, ◌+◌, ◌≤◌, List, [], ◌∷◌, ◌++◌, length, drop, arith, ap, ◌∙◌}
use Rattle.std.specs.List.{remove, refill}
use Rattle.std.proofs.lemmas.List.{append-nil, drop_all, take_all}

-- what stands behind the first n once one of the others is removed
pub drop-remove : {X : Type 0} (n i : ℕ) (xs : List X) → n ≤ length xs → drop n (remove xs (n + i)) ≡ remove (drop n xs) i
drop-remove zero i xs inside = let same : zero + i ≡ i = omega arith in ap (remove xs) same
drop-remove (suc n) i [] inside = absurd (omega arith)
drop-remove (suc n) i (x ∷ xs) inside =
    let on : suc n + i ≡ suc (n + i) = omega arith in
    ap (λ k. drop (suc n) (remove (x ∷ xs) k)) on ∙ drop-remove n i xs (omega arith)

-- as many elements as there were are lent and given back
pub refill-same : {X : Type 0} (xs ws : List X) → length ws ≡ length xs → refill (length xs) xs ws ≡ ws
refill-same xs ws same =
    let long : length (ws ++ []) ≤ length xs = rw append-nil (omega arith) in
    rw (drop_all (length ws) xs (omega arith), take_all (length xs) (ws ++ []) long) (append-nil ws)
