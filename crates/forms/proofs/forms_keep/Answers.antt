-- What is left to show of `forms_keep`.
use Rattle.forms.proofs.Keeping.{keeps}
use Rattle.forms.proofs.Laid.{measures, laying_ok}
use Rattle.forms.proofs.Stepped.{tells_layout}
use Rattle.forms.proofs.forms_keep.Goals as goal

pub returns-clause-keeps : goal.returns-clause-keeps
returns-clause-keeps c = keeps

pub returns-clause-tells : goal.returns-clause-tells
returns-clause-tells c = tells_layout

pub returns-clause-measures : goal.returns-clause-measures
returns-clause-measures c = measures

pub returns-clause-fits : goal.returns-clause-fits
returns-clause-fits c = laying_ok
