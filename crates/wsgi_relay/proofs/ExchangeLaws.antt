-- Exchanges that are begun, and those beside another.
use Rattle.std.proofs.Common.{◌≡◌, ℕ, ◌++◌, Bool, List, [], length, take, Option, Some, None, IfSome, sym, ap, ◌∙◌, subst, arith}
use Rattle.http_messages.specs.Environ.{Pair}
use Rattle.stream_net.specs.Net.{Connection, IsNew}
use Rattle.relay_core.specs.Message.{scgi_message}
use Rattle.wsgi_relay.specs.declared.exchange.Exchange.{Exchange}
use Rattle.wsgi_relay.specs.Exchanging.{IsBegun, IsExchanging, IsNoted}

none_told : (o : Option (List ℕ)) (bytes : List ℕ) → bytes ≡ [] → IfSome o (λ l. l ≡ []) → IfSome o (λ l. l ≡ bytes)
none_told None bytes e h = h
none_told (Some l) bytes e h = h ∙ sym e

pub begun_exchanging : (s : Connection) (moment : ℕ) (x : Exchange) (environ : List Pair) (body : List ℕ) → IsNew s moment → IsBegun x environ (length body) → IsExchanging s x body
begun_exchanging s moment x environ body fresh begun = record {
  sent = record {
    short = begun.short;
    within = let none = begun.unsent in omega (arith, none);
    written = none_told s.written (take x.sent (x.head ++ body)) (ap (λ (n : ℕ). take n (x.head ++ body)) begun.unsent) fresh.none_written;
  };
  heard = record {
    fed = [];
    read = fresh.none_read;
    reading = begun.unread;
    noted = subst (λ (b : Bool). IsNoted b s.faults) (sym begun.unfailed) fresh.faultless;
  };
}

pub begun_message : (x : Exchange) (environ : List Pair) (body : List ℕ) → IsBegun x environ (length body) → x.head ++ body ≡ scgi_message environ body
begun_message x environ body begun = ap (λ (l : List ℕ). l ++ body) begun.head
