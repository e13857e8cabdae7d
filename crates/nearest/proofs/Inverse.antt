-- The place of an output holds that output. Assumes nothing.
use Rattle.std.proofs.Common.{◌≡◌, ℕ, zero, suc, ◌+◌, ◌-◌, ◌*◌, ◌/◌, ◌%◌, ◌<◌, ◌≤◌, true, false, cond, eqb, ltb, List, get_or, ap, ◌∙◌, mul_comm, arith}
use Rattle.std.proofs.lemmas.Nat.{div-mul-add, mod-mul-add}
use Rattle.std.proofs.lemmas.Bool.{le-ltb, lt-ltb, ne_eqb}
use Rattle.code.specs.Columns.{index_of, is_order}
use Rattle.code.specs.Places.{column_at, output, place_bit, place_of, row_at}
use Rattle.code.specs.Register.{silent}
use Rattle.code.specs.declared.registers.Outputs.{Outputs}
use Rattle.code.proofs.Ordered.{order_index}

-- row r of the column at index j
held_later : (order : List ℕ) (n j r : ℕ) → r < n → (column_at order n (8 * n + n * j + r) ≡ get_or order j 0) × (row_at n (8 * n + n * j + r) ≡ r)
held_later order n j r h =
    let off : 8 * n + n * j + r - 8 * n ≡ j * n + r = omega (arith, mul_comm n j) in
    (cc (off, div-mul-add j n r h), cc (off, mod-mul-add j n r h))

pub place_back : (order : List ℕ) → is_order order ≡ true → (n : ℕ) (steps : List Outputs) (o t : ℕ) → 1 ≤ o → o ≤ 4 → t < 8 * n
    → place_bit order n steps (place_of order n o t) ≡ output o (get_or steps t silent.outputs)
unfolding place_bit place_of
place_back order is n steps zero t low high h = elim low [ ]
place_back order is n steps (suc zero) t low high h =
    ap (λ b. output (cond b 1 (column_at order n t / 8 + 2)) (get_or steps (cond b t (8 * row_at n t + column_at order n t % 8)) silent.outputs)) (lt-ltb t (8 * n) h)
place_back order is n steps (suc (suc o)) t low high h =
    let a = 8 * (suc (suc o) - 2) + t % 8 in
    let j = index_of a order in
    let p = 8 * n + n * j + t / 8 in
    let later : eqb (suc (suc o)) 1 ≡ false = ne_eqb _ 1 (λ e. omega arith) in
    let held = held_later order n j (t / 8) (omega arith) in
    let column : column_at order n p ≡ a = held.0 ∙ (order_index order is a (omega arith)).1 in
    let past : ltb p (8 * n) ≡ false = le-ltb p (8 * n) (omega arith) in
    let out : column_at order n p / 8 + 2 ≡ suc (suc o) = ap (λ c. c / 8 + 2) column ∙ (omega arith) in
    let at : 8 * row_at n p + column_at order n p % 8 ≡ t = (λ i. 8 * held.1 i + column i % 8) ∙ (omega arith) in
    ap (λ b. place_bit order n steps (cond b t p)) later
    ∙ ap (λ b. output (cond b 1 (column_at order n p / 8 + 2)) (get_or steps (cond b p (8 * row_at n p + column_at order n p % 8)) silent.outputs)) past
    ∙ (λ i. output (out i) (get_or steps (at i) silent.outputs))
