use Rattle.gv_top.specs.Inner.{answer_to_text}
use Rattle.gv_top.proofs.ReadTexts.{one_text_answer, text_is_answered}
use Rattle.gv_top.proofs.laws.texts_are_answered.Goals as goal

pub returns-clause-answered : goal.returns-clause-answered
returns-clause-answered c = λ command given bytes. (answer_to_text command given bytes, text_is_answered command given bytes)

pub returns-clause-one : goal.returns-clause-one
returns-clause-one c = λ command given bytes a b h k. one_text_answer command given bytes a b h k
