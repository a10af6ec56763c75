use Rattle.gv_top.proofs.Servings.{names_one}
use Rattle.gv_top.proofs.laws.words_name_one.Goals as goal

pub returns : goal.returns
returns c = λ words command e. names_one words command e
