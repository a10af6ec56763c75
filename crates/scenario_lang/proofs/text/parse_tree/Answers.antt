use Rattle.std.proofs.Common.{◌≡◌}
use Rattle.scenario_lang.proofs.Laws.{parsed_is_refused, parsed_is_spelt}
use Rattle.scenario_lang.proofs.text.parse_tree.Goals as goal

pub returns-clause-spelt : goal.returns-clause-spelt
returns-clause-spelt c = parsed_is_spelt (λ s bytes h. c.read_texts_are_spelt.ensures s bytes h) c.args.bytes.now c.read_bytes.result c.read_bytes.ensures

pub returns-clause-refused : goal.returns-clause-refused
returns-clause-refused c = parsed_is_refused (λ bytes p h. c.texts_without_a_place_are_spelt.ensures.refused bytes p h) (λ bytes. c.texts_without_a_place_are_spelt.ensures.spelt bytes) c.args.bytes.now c.read_bytes.result c.read_bytes.ensures
