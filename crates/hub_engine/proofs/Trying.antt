-- What was written of lines that were tried one after another.
use Rattle.std.proofs.Common.{◌≡◌, refl, ap, sym, ◌∙◌, subst, ℕ, List, [], ◌∷◌, ◌++◌, append_assoc, Option, Bool, true, false, take}
use Rattle.std.proofs.lemmas.List.{append-nil}
use Rattle.trace_text.specs.declared.line.Line.{Line}
use Rattle.trace_text.specs.Line.{text_of}
use Rattle.trace_reader.specs.Ranges.{LinesFit}
use Rattle.gv_io.specs.Streams.{appended, AppendsPrefix, Extends}
use Rattle.gv_io.proofs.StreamLaws.{AppendsPrefix-nothing, AppendsPrefix-all, AppendsPrefix-after, AppendsPrefix-longer, Extends-nothing, writes}
use Rattle.hub_engine.specs.Outside.{WritesPart, out_of}
use Rattle.hub_engine.specs.Written.{WritesAll}
use Rattle.hub_engine.proofs.Texts.{text_of_append}

pub fit_append : (xs ys : List Line) → LinesFit xs → LinesFit ys → LinesFit (xs ++ ys)
fit_append [] ys h k = k
fit_append (x ∷ xs) ys h k = (h.0, fit_append xs ys h.1 k)

-- what was written is a prefix of the text of all
pub part-prefix : (old new : Option (List ℕ)) (lines : List Line) → WritesPart old new lines → AppendsPrefix old new (text_of lines)
part-prefix old new lines p =
    subst (AppendsPrefix old new) (sym (ap text_of p.is ∙ text_of_append p.tried p.later)) (AppendsPrefix-longer old new (text_of p.tried) (text_of p.later) p.text)

-- nothing was tried
pub tried-nothing : (old : Option (List ℕ)) (lines : List Line) → WritesPart old old lines
tried-nothing old lines = record { tried = []; later = lines; is = refl; fit = tt; text = AppendsPrefix-nothing old [] }

-- all were tried
pub tried-all : (old new : Option (List ℕ)) (lines : List Line) (text : List ℕ) → text ≡ text_of lines → LinesFit lines → AppendsPrefix old new text → WritesPart old new lines
tried-all old new lines text e fit p = record { tried = lines; later = []; is = sym (append-nil lines); fit = fit; text = subst (AppendsPrefix old new) e p }

-- all were written
pub tried-whole : (old new : Option (List ℕ)) (lines more : List Line) → new ≡ appended old (text_of lines) → LinesFit lines → WritesPart old new (lines ++ more)
tried-whole old new lines more e fit = record { tried = lines; later = more; is = refl; fit = fit; text = AppendsPrefix-all old new (text_of lines) e }

-- some were written, and then others tried
pub tried-after : (old middle new : Option (List ℕ)) (lines more : List Line) → middle ≡ appended old (text_of lines) → LinesFit lines → WritesPart middle new more → WritesPart old new (lines ++ more)
tried-after old middle new lines more e fit p = record {
  tried = lines ++ p.tried;
  later = p.later;
  is = ap (λ ls. lines ++ ls) p.is ∙ sym (append_assoc lines p.tried p.later);
  fit = fit_append lines p.tried fit p.fit;
  text = subst (AppendsPrefix old new) (sym (text_of_append lines p.tried)) (AppendsPrefix-after old middle new (text_of lines) (text_of p.tried) e p.text);
}

-- more lines were not tried
pub tried-longer : (old new : Option (List ℕ)) (lines more : List Line) → WritesPart old new lines → WritesPart old new (lines ++ more)
tried-longer old new lines more p = record {
  tried = p.tried;
  later = p.later ++ more;
  is = ap (λ ls. ls ++ more) p.is ∙ append_assoc p.tried p.later more;
  fit = p.fit;
  text = p.text;
}

pub wrote-all : (old new : Option (List ℕ)) (lines : List Line) (text : List ℕ) → text ≡ text_of lines → LinesFit lines → new ≡ appended old text → WritesAll old new lines
wrote-all old new lines text e fit p = record { text = p ∙ ap (appended old) e; fit = fit }

-- ---- what is out

pub out_written : (waits : Bool) (old new handed0 handed1 : Option (List ℕ)) (text : List ℕ) → AppendsPrefix old new text → Extends handed0 handed1 → Extends (out_of waits old handed0) (out_of waits new handed1)
out_written true old new handed0 handed1 text p k = k
out_written false old new handed0 handed1 text p k = record { more = take p.count text; is = p.is }

pub out_flushed : (waits : Bool) (old new handed0 handed1 : Option (List ℕ)) → new ≡ old → Extends handed0 handed1 → Extends (out_of waits old handed0) (out_of waits new handed1)
out_flushed true old new handed0 handed1 same k = k
out_flushed false old new handed0 handed1 same k = subst (Extends old) (sym same) (Extends-nothing old)

-- all that was written is out
pub all_handed : (waits : Bool) (written handed : Option (List ℕ)) → handed ≡ written → out_of waits written handed ≡ written
all_handed true written handed e = e
all_handed false written handed e = refl

pub all_out : (waits may_wait : Bool) (written handed : Option (List ℕ)) → may_wait ≡ waits → may_wait ≡ false → out_of waits written handed ≡ written
all_out waits may_wait written handed e f = subst (λ (b : Bool). out_of b written handed ≡ written) (sym f ∙ e) refl

-- for functions that write the texts of lines
pub ruleset tries = (writes, tried-nothing, tried-all, wrote-all, out_written)
