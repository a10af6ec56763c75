use Rattle.std.proofs.Common.{◌∙◌, ◌<◌, ◌++◌, ◌∷◌, [], List, ap, length, subst}
use Rattle.stream_net.specs.declared.memory_endpoint.MemoryEndpoint.{MemoryEndpoint}
use Rattle.stream_net.specs.declared.script.ConnScript.{ConnScript}
use Rattle.stream_net.specs.Rules.{IsCalledFirst}
use Rattle.stream_net.proofs.MemoryLemmas.{any_item}
use Rattle.stream_net.proofs.memory_net.MemoryNetNet.accept.Goals as goal

pub returns-clause-first : goal.returns-clause-first
returns-clause-first c = λ k e.
    let n = c.args.self.now in
    let within : c.in-Some.place < length n.waiting.items = subst (λ (xs : List ConnScript). c.in-Some.place < length xs) c.deref.ensures.value c.in-Some.ensures.within in
    record {
      place = c.in-Some.place;
      first = subst (λ (xs : List ConnScript). IsCalledFirst xs n.moment c.in-Some.place) c.deref.ensures.value c.in-Some.ensures.first;
      taken = c.remove-script.ensures.items;
      endpoint = c.new.result;
      comes = c.push_reserved.ensures.items ∙ ap (λ (xs : List MemoryEndpoint). xs ++ c.new.result ∷ []) c.reserve.ensures.items;
      script = λ d. c.new.ensures.script ∙ (c.remove-script.ensures.value ∙ any_item n.waiting.items c.in-Some.place c.remove-script.result d within);
      calls = c.new.ensures.calls;
      writes = c.new.ensures.writes;
      untold = c.new.ensures.untold;
      ready = c.new.ensures.ready;
    }
