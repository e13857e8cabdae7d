-- To cap the numbers first changes no capped sum.
use native.Mathlib.Omega.{arith}
use Rattle·weighing·specs.Scales.{same-upto}
use Rattle·weighing·proofs.hard.HardWeighing.sum.Needs as need

pub returns : need.returns
returns c = record { means = same-upto _ _ (omega arith); value = omega arith }
