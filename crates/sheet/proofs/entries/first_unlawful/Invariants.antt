use Rattle.std.proofs.Common.{◌≡◌, ◌+◌, drop}
use Rattle.std.specs.Option.{option_map}
use Rattle.sheet.specs.Books.{unlawful}
use Rattle.sheet.proofs.entries.first_unlawful.Given as goal

-- what is left gives the index that all gives, counted from here on
abbrev pub invariant-loop-i : goal.invariant-loop-i
invariant-loop-i g l =
    let a = g.R.Reading.alphabet in
    unlawful a l.octets ≡ option_map (λ k. l.i + k) (unlawful a (drop l.i l.octets))
