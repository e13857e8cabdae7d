-- Sizes of a block, by the report's octets T and the check's length L in bits. Assumes nothing.
use Rattle.std.specs.Prelude.{◌≡◌, ℕ, zero, suc, ◌+◌, ◌*◌, ◌/◌, Bool, true, false, not, ◌||◌, List}
use Rattle.std.specs.Prelude.{[], ◌∷◌, ◌++◌, ◌==◌, nat_lt}
use Rattle.block.specs.Refusals.{Case, Check, if_refuse, numbered}
use Rattle.block.specs.declared.sizes.SizeRefusal.{SizeRefusal}
use Rattle.block.specs.declared.sizes.SizeRefusal.TheVariants.{Octets, CheckLength}
use Rattle.block.specs.declared.plans.PlanRefusal.{PlanRefusal}
use Rattle.block.specs.declared.plans.PlanRefusal.TheVariants.{Size, Rate, Length}

-- a report has 1 to 512 octets
abbrev pub octets_permitted : ℕ → Bool
octets_permitted octets = not (octets == 0 || nat_lt 512 octets)

-- a check has 4, 12, 20 or 28 bits
abbrev pub check_permitted : ℕ → Bool
check_permitted check = check == 4 || (check == 12 || (check == 20 || check == 28))

-- k, 0 to 24, is how many further columns the rate 8 / (8 + k) sends
abbrev pub rate_permitted : ℕ → Bool
rate_permitted k = not (nat_lt 24 k)

-- N: the octets of a block, which are the report's and those of check and tail
abbrev pub block_octets : ℕ → ℕ → ℕ
block_octets octets check = octets + (check + 4) / 8

-- the octets of the longest block, and the steps and places that belong to it
abbrev pub most_block_octets : ℕ
most_block_octets = block_octets 512 28

abbrev pub most_steps : ℕ
most_steps = 8 * most_block_octets

abbrev pub most_places : ℕ
most_places = 32 * most_block_octets

-- P: the octets of the first payload at rate 8 / (8 + k), rounded up
abbrev pub payload : ℕ → ℕ → ℕ → ℕ
payload octets check k = (block_octets octets check * (8 + k) + 7) / 8

-- some T from 1 to n has the first payload P
unfoldable pub some_size : ℕ → ℕ → ℕ → ℕ → Bool
some_size zero p check k = false
some_size (suc n) p check k = payload (suc n) check k == p || some_size n p check k

-- the cases of a refusal for the size
abbrev pub size_case : SizeRefusal → Case
size_case Octets = numbered 1
size_case CheckLength = numbered 2

-- the cases of the refusal of a plan, where one for the size has that refusal's own case
abbrev pub plan_case : PlanRefusal → Case
plan_case (Size e) = size_case e
plan_case Rate = numbered 3
plan_case Length = numbered 5

-- the checks of every call that is handed T and L
abbrev pub size_checks : ℕ → ℕ → List Check
size_checks octets check =
    if_refuse (not (octets_permitted octets)) 1 ∷ if_refuse (not (check_permitted check)) 2 ∷ []

abbrev pub plan_checks : ℕ → ℕ → ℕ → List Check
plan_checks octets check k = size_checks octets check ++ (if_refuse (not (rate_permitted k)) 3 ∷ [])

abbrev pub back_checks : ℕ → ℕ → ℕ → List Check
back_checks p check k =
    if_refuse (not (check_permitted check)) 2 ∷ if_refuse (not (rate_permitted k)) 3
    ∷ if_refuse (not (some_size 512 p check k)) 5 ∷ []

-- the only T from 1 to 512 that has the first payload P
pub record OnlySize (p check k octets : ℕ) : Type 0 where
  pub within : octets_permitted octets ≡ true
  pub fits : payload octets check k ≡ p
  pub alone : (other : ℕ) → payload other check k ≡ p → other ≡ octets
