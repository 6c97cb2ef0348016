-- How the fault of a pair reads: the side, a blank, and the fault's own text.
use Rattle.std.specs.Prelude.{ℕ, List, ◌++◌, codes}
use Rattle.faults.specs.Texts.{fault_text}
use Rattle.opening.specs.declared.fault.PairFault.{PairFault}
use Rattle.opening.specs.declared.fault.Side.{Side}
use Rattle.opening.specs.declared.fault.Side.TheVariants.{F, C}

abbrev pub side_name : Side → List ℕ
side_name F = codes "F"
side_name C = codes "C"

abbrev pub pair_fault_text : PairFault → List ℕ
pair_fault_text x = side_name x.side ++ (codes " " ++ fault_text x.fault)
