-- What parts of a run do outside of the hub, one after another.
use Rattle.std.proofs.Common.{◌≡◌, refl, ap, sym, ◌∙◌, subst, ℕ, ◌==◌, List, [], ◌∷◌, ◌++◌, append_assoc, length, Option, None, map, Bool, true, false, arith}
use Rattle.std.proofs.lemmas.Bool.{true≢false}
use Rattle.std.proofs.lemmas.Bool.Decides.{nat_tests}
use Rattle.std.proofs.lemmas.List.{append-nil, map-append}
use Rattle.trace_text.specs.declared.line.Line.{Line}
use Rattle.trace_text.specs.Line.{text_of}
use Rattle.gv_io.specs.Streams.{appended, Extends}
use Rattle.gv_io.proofs.StreamLaws.{appended-nothing, appended-appended, Extends-after, Extends-nothing}
use Rattle.gv_values.specs.declared.job.Answer.{Answer}
use Rattle.world_rules.specs.declared.question.LogEntry.{LogEntry}
use Rattle.world_rules.specs.declared.question.Question.{Question}
use Rattle.world_rules.specs.Legal.{AreLegal, IsLegal, answers_of, posted, posts_of}
use Rattle.world.specs.Outside.{WorldGoesOn, WorldMeaning, Stores}
use Rattle.world.proofs.LegalLogs.{legal_append}
use Rattle.machine.specs.declared.state.Post.{Post}
use Rattle.machine.specs.Run.{logged, silent}
use Rattle.machine.specs.State.{State}
use Rattle.machine_turns.specs.Logs.{posts_of_step}
use Rattle.hub_engine.specs.Outside.{HasDone, HasGiven, HasGivenPart, HasPostedPart, Outside, WritesPart, out_of, outside_as}
use Rattle.hub_engine.proofs.Texts.{text_of_append}
use Rattle.hub_engine.proofs.Trying.{fit_append, tried-after, tried-longer, tried-nothing, tried-whole}

-- ---- logs one after another

pub posts_of_append : (log more : List LogEntry) → posts_of (log ++ more) ≡ posts_of log ++ posts_of more
posts_of_append [] more = refl
posts_of_append (LogEntry.Post n j t ∷ log) more = ap (λ ps. posted n j ∷ ps) (posts_of_append log more)
posts_of_append (LogEntry.Asked q a ∷ log) more = posts_of_append log more

pub answers_of_append : (log more : List LogEntry) → answers_of (log ++ more) ≡ answers_of log ++ answers_of more
answers_of_append [] more = refl
answers_of_append (LogEntry.Post n j t ∷ log) more = answers_of_append log more
answers_of_append (LogEntry.Asked q a ∷ log) more = ap (λ answers. a ∷ answers) (answers_of_append log more)

pub posts_of_logged : (posts : List Post) → posts_of (map logged posts) ≡ posts_of_step posts
posts_of_logged [] = refl
posts_of_logged (p ∷ posts) = ap (λ ps. posted p.number p.job ∷ ps) (posts_of_logged posts)

pub answers_of_logged : (posts : List Post) → answers_of (map logged posts) ≡ []
answers_of_logged [] = refl
answers_of_logged (p ∷ posts) = answers_of_logged posts

-- ---- what was done with a world

-- nothing of what stays has changed
pub same_rest : (m : WorldMeaning) → WorldGoesOn m m
same_rest m = record { workers = refl; tick = refl; listed = refl; runs = refl; reference = refl }

pub done_nothing : (v : Outside) → HasDone v v []
done_nothing v = record {
  posts = sym (append-nil v.means.posts);
  answers = sym (append-nil v.means.answers);
  legal = tt;
  rest = same_rest v.means;
  log = λ before h. subst v.stands (sym (append-nil before)) h;
}

pub done_then : (u v w : Outside) (log more : List LogEntry) → HasDone u v log → HasDone v w more → HasDone u w (log ++ more)
done_then u v w log more d e = record {
  posts = e.posts ∙ ap (λ ps. ps ++ posts_of more) d.posts ∙ append_assoc u.means.posts (posts_of log) (posts_of more) ∙ ap (λ ps. u.means.posts ++ ps) (sym (posts_of_append log more));
  answers = e.answers ∙ ap (λ z. z ++ answers_of more) d.answers ∙ append_assoc u.means.answers (answers_of log) (answers_of more)
      ∙ ap (λ z. u.means.answers ++ z) (sym (answers_of_append log more));
  legal = legal_append u.means.posts u.means.answers log more d.legal
      (subst (λ ps. AreLegal ps (u.means.answers ++ answers_of log) more) d.posts (subst (λ z. AreLegal v.means.posts z more) d.answers e.legal));
  rest = record {
    workers = e.rest.workers ∙ d.rest.workers;
    tick = e.rest.tick ∙ d.rest.tick;
    listed = e.rest.listed ∙ d.rest.listed;
    runs = e.rest.runs ∙ d.rest.runs;
    reference = e.rest.reference ∙ d.rest.reference;
  };
  log = λ before h. subst w.stands (append_assoc before log more) (e.log (before ++ log) (d.log before h));
}

-- a question was asked and answered
pub done_asked : (v w : Outside) (q : Question) (a : Answer) → IsLegal v.means.posts v.means.answers q a → Stores v.means w.means a →
    ((before : List LogEntry) → v.stands before → w.stands (before ++ LogEntry.Asked q a ∷ [])) → HasDone v w (LogEntry.Asked q a ∷ [])
done_asked v w q a legal s f = record {
  posts = s.posts ∙ sym (append-nil v.means.posts);
  answers = s.answers;
  legal = (legal, tt);
  rest = s.rest;
  log = f;
}

-- ---- what was given out

pub given_nothing : (v : Outside) → HasGiven v v [] []
given_nothing v = record { text = sym (appended-nothing v.written); out = Extends-nothing v.out; fit = tt; done = done_nothing v }

pub given_then : (u v w : Outside) (lines more : List Line) (log later : List LogEntry) → HasGiven u v lines log → HasGiven v w more later → HasGiven u w (lines ++ more) (log ++ later)
given_then u v w lines more log later g h = record {
  text = h.text ∙ ap (λ m. appended m (text_of more)) g.text ∙ appended-appended u.written (text_of lines) (text_of more) ∙ ap (appended u.written) (sym (text_of_append lines more));
  out = Extends-after u.out v.out w.out g.out h.out;
  fit = fit_append lines more g.fit h.fit;
  done = done_then u v w log later g.done h.done;
}

pub logged_then : (posts more : List Post) → map logged (posts ++ more) ≡ map logged posts ++ map logged more
logged_then posts more = map-append logged posts more

pub posts_given_then : (u v w : Outside) (lines more : List Line) (posts later : List Post) → HasGiven u v lines (map logged posts) → HasGiven v w more (map logged later) →
    HasGiven u w (lines ++ more) (map logged (posts ++ later))
posts_given_then u v w lines more posts later g h =
    subst (HasGiven u w (lines ++ more)) (sym (logged_then posts later)) (given_then u v w lines more (map logged posts) (map logged later) g h)

-- ---- what was given out in part

pub made_nothing : (v : Outside) (posts : List Post) → HasPostedPart v v posts
made_nothing v posts = record { part = []; later = posts; is = refl; done = done_nothing v }

pub made_all : (v w : Outside) (posts : List Post) → HasDone v w (map logged posts) → HasPostedPart v w posts
made_all v w posts d = record { part = posts; later = []; is = sym (append-nil posts); done = d }

pub part_nothing : (v : Outside) (lines : List Line) (posts : List Post) → HasGivenPart v v lines posts
part_nothing v lines posts = record { text = tried-nothing v.written lines; out = Extends-nothing v.out; made = made_nothing v posts }

-- all was given out, and it broke off behind that
pub given_whole : (v w : Outside) (waits : Bool) (written handed : Option (List ℕ)) (lines : List Line) (posts : List Post) → HasGiven v w lines (map logged posts) → written ≡ w.written →
    Extends w.out (outside_as waits written handed w.means w.stands).out → HasGivenPart v (outside_as waits written handed w.means w.stands) lines posts
given_whole v w waits written handed lines posts g same more = record {
  text = subst (WritesPart v.written written) (append-nil lines) (tried-whole v.written written lines [] (same ∙ g.text) g.fit);
  out = Extends-after v.out w.out (outside_as waits written handed w.means w.stands).out g.out more;
  made = made_all v (outside_as waits written handed w.means w.stands) posts g.done;
}

-- what was given out was handed on too
pub given_flushed : (v w : Outside) (waits : Bool) (written handed : Option (List ℕ)) (lines : List Line) (entries : List LogEntry) → HasGiven v w lines entries → written ≡ w.written →
    Extends w.out (outside_as waits written handed w.means w.stands).out → HasGiven v (outside_as waits written handed w.means w.stands) lines entries
given_flushed v w waits written handed lines entries g same more = record {
  text = same ∙ g.text;
  out = Extends-after v.out w.out (outside_as waits written handed w.means w.stands).out g.out more;
  fit = g.fit;
  done = g.done;
}

-- some posts were made, and nothing was written
pub part_posted : (waits : Bool) (written handed : Option (List ℕ)) (m n : WorldMeaning) (stood stands : List LogEntry → Type 0) (lines : List Line) (posts : List Post) →
    HasPostedPart (outside_as waits None None m stood) (outside_as waits None None n stands) posts → HasGivenPart (outside_as waits written handed m stood) (outside_as waits written handed n stands) lines posts
part_posted waits written handed m n stood stands lines posts h = record {
  text = tried-nothing written lines;
  out = Extends-nothing (out_of waits written handed);
  made = record { part = h.part; later = h.later; is = h.is; done = h.done };
}

pub part_after : (u v w : Outside) (lines more : List Line) (posts later : List Post) → HasGiven u v lines (map logged posts) → HasGivenPart v w more later →
    HasGivenPart u w (lines ++ more) (posts ++ later)
part_after u v w lines more posts later g h = record {
  text = tried-after u.written v.written w.written lines more g.text g.fit h.text;
  out = Extends-after u.out v.out w.out g.out h.out;
  made = record {
    part = posts ++ h.made.part;
    later = h.made.later;
    is = ap (λ ps. posts ++ ps) h.made.is ∙ sym (append_assoc posts h.made.part h.made.later);
    done = subst (HasDone u w) (sym (logged_then posts h.made.part)) (done_then u v w (map logged posts) (map logged h.made.part) g.done h.made.done);
  };
}

pub part_longer : (v w : Outside) (lines more : List Line) (posts later : List Post) → HasGivenPart v w lines posts → HasGivenPart v w (lines ++ more) (posts ++ later)
part_longer v w lines more posts later g = record {
  text = tried-longer v.written w.written lines more g.text;
  out = g.out;
  made = record {
    part = g.made.part;
    later = g.made.later ++ later;
    is = ap (λ ps. ps ++ later) g.made.is ∙ append_assoc g.made.part g.made.later later;
    done = g.made.done;
  };
}

pub part_whole : (v w : Outside) (lines more : List Line) (posts later : List Post) → HasGiven v w lines (map logged posts) → HasGivenPart v w (lines ++ more) (posts ++ later)
part_whole v w lines more posts later g = record {
  text = tried-whole v.written w.written lines more g.text g.fit;
  out = g.out;
  made = record { part = posts; later = later; is = refl; done = g.done };
}

-- where there was nothing to post, nothing was done with the world
pub none_done : (v w : Outside) (lines : List Line) (posts : List Post) → posts ≡ [] → HasGivenPart v w lines posts → HasDone v w []
none_done v w lines posts e g = subst (λ ps. HasDone v w (map logged ps)) (front g.made.part g.made.later (sym g.made.is ∙ e)) g.made.done
  where
    front : (xs ys : List Post) → xs ++ ys ≡ [] → xs ≡ []
    front [] ys e = refl
    front (x ∷ xs) ys e = absurd (cc e)

-- ---- a step that said and posted nothing

pub silent_still : (s : State) (said : List Line) (posted : List Post) → said ≡ s.lines → posted ≡ s.posts → (length said == 0) ≡ true → (length posted == 0) ≡ true → s ≡ silent s
silent_still s said posted e f lines posts =
    ap (λ (ls : List Line). record s { lines = ls }) (sym e ∙ none said lines) ∙ ap (λ (ps : List Post). record s { lines = []; posts = ps }) (sym f ∙ none posted posts)
  where
    none : {X : Type 0} (xs : List X) → (length xs == 0) ≡ true → xs ≡ []
    none [] e = refl
    none (x ∷ xs) e = absurd (let some : (length (x ∷ xs) == 0) ≡ false = grind (arith, nat_tests) in true≢false (sym e ∙ some))

pub given_silent : (v : Outside) (s : State) → s ≡ silent s → HasGiven v v s.lines (map logged s.posts)
given_silent v s e = subst (λ (x : State). HasGiven v v x.lines (map logged x.posts)) (sym e) (given_nothing v)
