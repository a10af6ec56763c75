-- What a page is answered.
use Rattle.std.specs.Prelude.{◌≡◌, ◌≢◌, ◌⊎◌, ℕ, false, List, [], Some}
use Rattle.std.specs.Option.{IsSome}
use Rattle.command_words.specs.Words.{Word}
use Rattle.page_answer.specs.Page.{IsFull, Written}
use Rattle.wsgi_core.specs.Shipped.{shipped}
use Rattle.gv_top.specs.Answers.{Answer}
use Rattle.gv_top.specs.Top.{IsAnswered}
use Rattle.gv_top.specs.Verifying.{IsAnswerOf}
use Rattle.gv_top.specs.Words.{offline_command_of, is_native, serve_of}

-- What stands in out and err with a status: where the words ask for no native workers, what the program answers to
-- these words and this text, over streams that begin empty. The text can be read, and a write fails only where out or err
-- is full. With 256, which no program has, the words name a server.
pub record IsSaid (status : ℕ) (words : List Word) (text : List ℕ) (out err : Written) : Type 0 where
  pub answered : (a : Answer) → status ≢ 256 → is_native (offline_command_of words) ≡ false → IsAnswerOf shipped (offline_command_of words) [] text a →
      IsAnswered status a (Some []) (Some out.bytes) (Some []) (Some err.bytes)
  pub read : status ≢ 4
  pub full : status ≡ 5 → IsFull out ⊎ IsFull err
  pub serves : status ≡ 256 → IsSome (serve_of words)
