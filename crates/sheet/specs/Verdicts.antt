-- What the verdicts say. Assumes nothing.
use Rattle.std.specs.Prelude.{Bool, List}
use Rattle.block.specs.Checks.{CheckFits}
use Rattle.code.specs.Shapes.{Shape}
use Rattle.sheet.specs.declared.answers.Verdict.{Verdict}
use Rattle.sheet.specs.declared.answers.Verdict.TheVariants.{Fits, DoesNotFit}

-- what each verdict says of a message of this shape
abbrev pub IsVerdict : Shape → List Bool → Verdict → Type 0
IsVerdict shape message Fits = CheckFits shape.octets shape.check message
IsVerdict shape message DoesNotFit = ¬ CheckFits shape.octets shape.check message
