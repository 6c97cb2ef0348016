-- How the fault of a step reads: the side, the step and the fault's own text, with a blank between them.
use Rattle.std.specs.Prelude.{ℕ, List, ◌++◌, codes, decimal}
use Rattle.faults.specs.Texts.{fault_text}
use Rattle.opening.specs.Texts.{side_name}
use Rattle.chains.specs.declared.fault.ChainFault.{ChainFault}

abbrev pub chain_fault_text : ChainFault → List ℕ
chain_fault_text x = side_name x.side ++ (codes " " ++ (decimal x.step ++ (codes " " ++ fault_text x.fault)))
