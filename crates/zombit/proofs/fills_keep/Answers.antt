-- What is left to show of `fills_keep`.
use Rattle.std.proofs.Common.{sym}
use Rattle.zombit.proofs.Measured.{size_taken}
use Rattle.zombit.proofs.Returned.{rows_told, keeps}
use Rattle.zombit.proofs.fills_keep.Goals as goal

pub returns-clause-keeps : goal.returns-clause-keeps
returns-clause-keeps c = λ β taken s sized. keeps β s (size_taken β (sym taken)) sized

pub returns-clause-tells : goal.returns-clause-tells
returns-clause-tells c = λ β s size. rows_told β s
