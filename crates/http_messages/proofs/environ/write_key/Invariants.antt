use Rattle.std.proofs.Common.{◌≡◌, ◌++◌, map, take, codes}
use Rattle.http_messages.specs.Environ.{key_byte}
use Rattle.http_messages.proofs.environ.write_key.Given as goal

abbrev pub invariant-loop-byte : goal.invariant-loop-byte
invariant-loop-byte l = l.key.items ≡ codes "HTTP_" ++ map key_byte (take l.byte-index l.name)
