-- An answer that refuses nothing is no refusal.
use Rattle.std.proofs.Common.{◌≡◌, Ok, Err, Result, refl}
use Rattle.std.specs.Result.{IsOk}
use Rattle.faults.specs.declared.fault.Fault.{Fault}
use Rattle.forms.specs.Verdicts.{verdict_of}

pub is_ok : {A : Type 0} (r : Result A Fault) → verdict_of r ≡ Ok tt → IsOk r
is_ok (Ok a) h = refl
is_ok (Err e) h = cc
