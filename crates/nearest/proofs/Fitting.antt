-- The check of the message that a report is coded as fits. Assumes nothing.
use Rattle.std.proofs.Common.{◌≡◌, ℕ, ◌+◌, ◌-◌, ◌*◌, ◌<◌, Bool, false, cond, ltb, List, map, take, sym, ap, ◌∙◌, arith}
use Rattle.std.specs.List.{range_with_len}
use Rattle.std.proofs.lemmas.List.FromFn.{fill_by_all, get_or-map-range_with_len, length-map-range_with_len, take-map-range_with_len}
use Rattle.std.proofs.lemmas.Bool.{le-ltb, lt-ltb}
use Rattle.block.specs.Bits.{bit_at, bits_of}
use Rattle.block.specs.Checks.{CheckFits, check_of, report_bit, report_message, term}

module _ (report : List ℕ) (octets check : ℕ) where
  abbrev bit_of : ℕ → Bool
  bit_of = report_bit report octets check

  abbrev field : ℕ
  field = check_of check (bits_of report (8 * octets))

  -- the report's own bits stand first
  pub own_bit : (k : ℕ) → k < 8 * octets → bit_of k ≡ bit_at report k
  own_bit k h = ap (λ b. cond b (bit_at report k) (term check field (k - 8 * octets))) (lt-ltb k (8 * octets) h)

  own_bits : take (8 * octets) (report_message report octets check) ≡ bits_of report (8 * octets)
  own_bits =
      take-map-range_with_len bit_of 0 (8 * octets + check) (8 * octets) (omega arith)
      ∙ fill_by_all (bit_at report) (map bit_of (range_with_len 0 (8 * octets))) (8 * octets) false (length-map-range_with_len bit_of 0 (8 * octets))
      (λ k h. get_or-map-range_with_len bit_of 0 (8 * octets) k k false h (omega arith) ∙ own_bit k h)

  -- and then its check, the highest term first
  pub report_fits : CheckFits octets check (report_message report octets check)
  unfolding CheckFits
  report_fits i h =
      let t = 8 * octets + i in
      let past : ltb t (8 * octets) ≡ false = le-ltb t (8 * octets) (omega arith) in
      let back : t - 8 * octets ≡ i = omega arith in
      get_or-map-range_with_len bit_of 0 (8 * octets + check) t t false (omega arith) (omega arith)
      ∙ ap (λ b. cond b (bit_at report t) (term check field (t - 8 * octets))) past
      ∙ ap (term check field) back
      ∙ ap (λ xs. term check (check_of check xs) i) (sym own_bits)
