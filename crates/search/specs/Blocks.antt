-- The facts of paths over the block in code, whose entries weigh each branch. Nothing here is part
-- of what the search promises. Assumes nothing.
use Rattle.std.specs.Prelude.{◌≡◌, ℕ, ◌+◌, ◌<◌, List, length, Option, slice_set}
use Rattle.code.specs.declared.registers.Outputs.{Outputs}
use Rattle.weighing.specs.declared.Weighing.{Ghosts}
use Rattle.search.specs.Paths.{Best, Lightest, Traced, branch_weight, traceback}
use Rattle.search.specs.Weights.{Sums, entry_sums}
use Rattle.search.specs.declared.blocks.Block.{Block}

module _ {W V : Type 0} {g : Ghosts W V} (block : Block W V g) where
  -- what the places of the block weigh
  abbrev pub sums_in : Sums g.scale
  sums_in = entry_sums g.scale block.tally.now

  -- f gives the weight of each branch of step t by its outputs
  abbrev pub WeighsBranches : ℕ → (Outputs → g.scale.Meaning) → Type 0
  WeighsBranches t f =
      (v : Outputs) → f v ≡ branch_weight g.scale block.order.now.columns block.n sums_in t v

  -- w is the lightest to state k of t steps
  abbrev pub LightestIn : List ℕ → ℕ → ℕ → Option g.scale.Meaning → Type 0
  LightestIn = Lightest g.scale block.order.now.columns block.n sums_in

  -- the path weights are the lightest of t steps
  abbrev pub BestIn : List ℕ → (ℕ → Option g.scale.Meaning) → ℕ → Type 0
  BestIn = Best g.scale block.order.now.columns block.n sums_in

  -- Step t makes of the lightest path weights before it the lightest after it, once its word of
  -- survivors is noted.
  abbrev pub Advances : ℕ → (before after : ℕ → Option g.scale.Meaning) → ℕ → Type 0
  Advances t before after word =
      (survivors : List ℕ) → t < length survivors → BestIn survivors before t
      → BestIn (slice_set survivors t word) after (t + 1)

  -- All the survivors give a message with its tail, of weight w, and no message of as many bits
  -- weighs less.
  abbrev pub TracesNearest : List ℕ → g.scale.Meaning → Type 0
  TracesNearest survivors w =
      (bits : ℕ) → bits + 4 ≡ length survivors
      → Traced g.scale block.order.now.columns block.n sums_in (traceback survivors 0) bits w
