use Rattle.std.proofs.Common.{Ok, Err}
use Rattle.std.proofs.lemmas.List.Sorted.{searched}
use Rattle.stream_server.proofs.Rising.{rising_at, found_at, not_missed}
use Rattle.stream_server.proofs.members.place_of.Goals as goal

pub returns : goal.returns
returns c =
    let ms = c.args.numbers.now in
    found_at ms c.args.conn c.in-Ok.at (searched ms c.args.conn (Ok c.in-Ok.at) c.in-Ok.ensures.position (rising_at ms c.requires.rising))

pub unreachable-requires : goal.unreachable-requires
unreachable-requires c =
    let ms = c.args.numbers.now in
    not_missed ms c.args.conn c.in-Err.field-0 c.requires.there (searched ms c.args.conn (Err c.in-Err.field-0) c.in-Err.ensures.position (rising_at ms c.requires.rising))
