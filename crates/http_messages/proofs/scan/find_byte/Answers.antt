use Rattle.http_messages.proofs.ScanLaws.{place_is, place_none}
use Rattle.http_messages.proofs.scan.find_byte.Goals as goal

pub returns-in-Some-clause-position : goal.returns-in-Some-clause-position
returns-in-Some-clause-position c =
    let found = rw c.in-Some.is at c.memchr.ensures in
    place_is c.args.byte c.args.bytes.now c.in-Some.at found.0 found.1

pub returns-in-None-clause-position : goal.returns-in-None-clause-position
returns-in-None-clause-position c =
    let none = rw c.in-None.is at c.memchr.ensures in
    place_none c.args.byte c.args.bytes.now none
