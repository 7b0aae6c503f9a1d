use Rattle.service.proofs.Prelude.{refl}
use Rattle.serde_json.proofs.OnLiterals.{serde_json_on_literals}
use Rattle.service.proofs.refusals.text_of.Goals as goal

pub returns-in-H1 : goal.returns-in-H1
unfolding serde_json_on_literals
returns-in-H1 c = rw c.in-H1.is refl

pub returns-in-H2 : goal.returns-in-H2
unfolding serde_json_on_literals
returns-in-H2 c = rw c.in-H2.is refl

pub returns-in-H3 : goal.returns-in-H3
unfolding serde_json_on_literals
returns-in-H3 c = rw c.in-H3.is refl

pub returns-in-H4 : goal.returns-in-H4
unfolding serde_json_on_literals
returns-in-H4 c = rw c.in-H4.is refl

pub returns-in-H5 : goal.returns-in-H5
unfolding serde_json_on_literals
returns-in-H5 c = rw c.in-H5.is refl

pub returns-in-H6 : goal.returns-in-H6
unfolding serde_json_on_literals
returns-in-H6 c = rw c.in-H6.is refl

pub returns-in-H7 : goal.returns-in-H7
unfolding serde_json_on_literals
returns-in-H7 c = rw c.in-H7.is refl

pub returns-in-H8 : goal.returns-in-H8
unfolding serde_json_on_literals
returns-in-H8 c = rw c.in-H8.is refl
