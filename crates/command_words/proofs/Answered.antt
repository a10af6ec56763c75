-- The command that `clap` finds in words without a stray dash is the one that they name, and words with one name none.
use Rattle.std.proofs.Math.Path.{fun_ext}
use Rattle.std.proofs.Common.{◌≡◌, ◌&&◌, ◌||◌, ◌⊎◌, Bool, true, false, not, if◌then◌else◌, List, [], ◌∷◌, map, fold, Option, Some, None, option_map, option_and_then, is_some, codes, refl, ap, ap₂, sym, subst, ◌∙◌, inl, inr, true≢false}
use Rattle.std.specs.List.{list_any}
use Rattle.std.specs.Str.{bytes_eq}
use Rattle.std.proofs.lemmas.Slice.Eq.{bytes_eq-Decides}
use Rattle.clap.proofs.WalkLemmas.{walk_stopped}
use Rattle.clap.proofs.FaultLemmas.{stopped_fault}
use Rattle.clap.proofs.OnLiterals.{clap_on_literals}
use Rattle.clap.specs.Walk.{Held, Row, Rule, Walk, finished, first_of, has_row, is_empty, nothing_held, rows_after, settled, walk, walk_from, walked, with_default}
use Rattle.clap.specs.Simple.{App, Shape, built, entered, names_of}
use Rattle.clap.specs.Takes.{is_given}
use Rattle.clap.specs.Kinds.{Kinds, or_else}
use Rattle.clap.specs.declared.error.kind.ErrorKind.{ErrorKind}
use Rattle.clap.specs.declared.error.kind.ErrorKind.TheVariants as kind
use Rattle.clap.specs.Faults.{turn_fault, check_fault, default_fault, defaults_fault, entered_fault, level_fault, settle_fault, walk_fault}
use Rattle.command_words.specs.declared.command.NamedCommand.{NamedCommand}
use Rattle.command_words.specs.Words.{Word, Said, CommandRow, run, format, wsgi, serve, storm, verify, begins_with_dash, command_by, command_of, is_among, option_word, options, row_of, says, value_in}
use Rattle.command_words.specs.Clap.{by_clap, command_in, is_stray, program}
use Rattle.command_words.proofs.Rules.{opt, row}
use Rattle.command_words.proofs.Walks.{differs, full, Long, Plain, or_parts, view, reads_are, shape, total}

-- ---- a word with a stray dash

no_and_then : {A B : Type 0} (f : A → Option B) (o : Option A) → ((a : A) → f a ≡ None) → option_and_then f o ≡ None
no_and_then f None h = refl
no_and_then f (Some a) h = h a

stray_idle : (names : List Word) (word : Word) (words : List Word) (said : Said) → is_stray word ≡ true → options names (word ∷ words) None said ≡ None
stray_idle names word words said h = by (option_word word) refl
  where
    by : (o : Option (Word × Option Word)) → option_word word ≡ o → options names (word ∷ words) None said ≡ None
    by None e = rw (options, e) refl
    by (Some p) e = absurd (true≢false (sym h ∙ ap (λ (q : Option (Word × Option Word)). begins_with_dash word && not (is_some q)) e ∙ no_and (begins_with_dash word)))
      where
        no_and : (b : Bool) → (b && false) ≡ false
        no_and true = refl
        no_and false = refl

-- ---- one subcommand

no_defaults : (rows : List Row) (names : List Word) → defaults_fault rows (map opt names) ≡ []
unfolding defaults_fault
no_defaults rows [] = refl
no_defaults rows (n ∷ ns) = by (no_defaults rows ns) (has_row n rows) refl
  where
    by : defaults_fault rows (map opt ns) ≡ [] → (b : Bool) → has_row n rows ≡ b → or_else (default_fault rows (opt n)) (defaults_fault (with_default rows (opt n)) (map opt ns)) ≡ []
    by ih true e = rw e ih
    by ih false e = rw e ih

same_rows : (rows : List Row) (names : List Word) → fold with_default rows (map opt names) ≡ rows
same_rows rows [] = refl
same_rows rows (n ∷ ns) = by (same_rows rows ns) (has_row n rows) refl
  where
    by : fold with_default rows (map opt ns) ≡ rows → (b : Bool) → has_row n rows ≡ b → fold with_default (with_default rows (opt n)) (map opt ns) ≡ rows
    by ih true e = rw e ih
    by ih false e = rw e ih

none_required : (s : Shape) (names : List Word) (rows : List Row) → list_any (λ (a : Rule). a.required && not (is_given a.id rows)) (map opt names) ≡ false
none_required s [] rows = refl
none_required s (n ∷ ns) rows = none_required s ns rows

or_none : (k : Kinds) → or_else k [] ≡ k
or_none [] = refl
or_none (k ∷ ks) = refl

value_read : (name : Word) (said : Said) → first_of name (map row said) ≡ value_in said name
value_read name [] = refl
value_read name (p ∷ said) = by (value_read name said) (bytes_eq p.0 name) refl
  where
    by : first_of name (map row said) ≡ value_in said name → (b : Bool) → bytes_eq p.0 name ≡ b → first_of name (map row (p ∷ said)) ≡ value_in (p ∷ said) name
    by ih true e = rw e refl
    by ih false e = rw e ih

module _ (nm : Word) (names words : List Word) where
  abbrev rules : List Rule
  rules = map opt names

  abbrev end : Held
  end = (walk rules [] nothing_held words).held

  level_is : level_fault (shape nm names) [] nothing_held words false [] ≡ total (shape nm names) (walk_from nothing_held) words
  level_is = rw (no_defaults (settled rules end).rows names, none_required (shape nm names) names (finished rules end))
      (ap (λ k. or_else (walk_fault (shape nm names) [] (walk_from nothing_held) words) k) (or_none (settle_fault rules false end)))

  rows_are : rows_after rules [] words ≡ (settled rules end).rows
  rows_are = same_rows (settled rules end).rows names

  abbrev of_rows : List Row → Option NamedCommand
  of_rows r = command_by nm (λ n. first_of n r)

  abbrev of_said : Said → Option NamedCommand
  of_said said = command_by nm (value_in said)

  if_some : (b : Bool) (r : List Row) → (if b then of_rows r else None) ≡ option_and_then of_rows (if b then Some r else None)
  if_some true r = refl
  if_some false r = refl

  of_options : (o : Option Said) → option_and_then of_rows (option_map (map row) o) ≡ option_and_then of_said o
  of_options None = refl
  of_options (Some said) = ap (command_by nm) (fun_ext (λ n. value_read n said))

  pub leaf_command : list_any is_stray words ≡ false
      → (if is_empty (level_fault (shape nm names) [] nothing_held words false []) then of_rows (rows_after rules [] words) else None)
      ≡ option_and_then of_said (options names words None [])
  leaf_command e =
      ap₂ (λ k r. if is_empty k then of_rows r else None) level_is rows_are
      ∙ if_some (is_empty (total (shape nm names) (walk_from nothing_held) words)) (settled rules end).rows
      ∙ ap (option_and_then of_rows) (reads_are nm names words e) ∙ of_options (options names words None [])

-- ---- the program

abbrev whole : App
whole = built program

abbrev at_top : Walk → Kinds → Option NamedCommand
at_top w f =
    if is_empty (or_else f (or_else (entered_fault whole w.stopped) (or_else (settle_fault whole.top.rules whole.top.args_override_self w.held)
    (or_else (defaults_fault (settled whole.top.rules w.held).rows whole.top.rules) (check_fault whole.top (finished whole.top.rules w.held) (is_some (entered whole w.stopped)))))))
    then command_in (entered whole w.stopped) else None

at_top_is : (words : List Word) → by_clap words ≡ at_top (walk whole.top.rules (names_of whole) nothing_held words) (walk_fault whole.top (names_of whole) (walk_from nothing_held) words)
at_top_is words = refl

-- behind the name of a command the words are left to it
entered_at : (nm : Word) (words : List Word) → walked whole.top.rules (names_of whole) (walk_from nothing_held) nm ≡ record (walk_from nothing_held) { stopped = Some (nm, []) }
    → turn_fault whole.top (names_of whole) (walk_from nothing_held) nm ≡ []
    → by_clap (nm ∷ words) ≡ at_top (record (walk_from nothing_held) { stopped = Some (nm, words) }) []
unfolding walk_fault
entered_at nm words w f =
    at_top_is (nm ∷ words)
    ∙ ap₂ at_top (ap (λ v. fold (walked whole.top.rules (names_of whole)) v words) w ∙ sym (walk_stopped whole.top.rules (names_of whole) (walk_from nothing_held) nm [] words))
    (ap₂ (λ k v. or_else k (walk_fault whole.top (names_of whole) v words)) f w ∙ stopped_fault whole.top (names_of whole) (walk_from nothing_held) (nm, []) words)

-- what `clap` makes of the words of the command of this row
abbrev of_row : CommandRow → List Word → Option NamedCommand
of_row r words =
    if is_empty (or_else (level_fault (shape r.name r.options) [] nothing_held words false []) [])
    then command_by r.name (λ n. first_of n (rows_after (map opt r.options) [] words)) else None

row_is : (r : CommandRow) (words : List Word) → list_any is_stray words ≡ false
    → of_row r words ≡ option_and_then (λ said. command_by r.name (value_in said)) (options r.options words None [])
row_is r words e =
    ap (λ k. if is_empty k then command_by r.name (λ n. first_of n (rows_after (map opt r.options) [] words)) else None)
    (or_none (level_fault (shape r.name r.options) [] nothing_held words false []))
    ∙ leaf_command r.name r.options words e

run_is : (words : List Word) → list_any is_stray words ≡ false → by_clap (run.name ∷ words) ≡ command_of (run.name ∷ words)
unfolding clap_on_literals
run_is words e = entered_at run.name words refl refl ∙ row_is run words e

format_is : (words : List Word) → list_any is_stray words ≡ false → by_clap (format.name ∷ words) ≡ command_of (format.name ∷ words)
unfolding clap_on_literals
format_is words e = entered_at format.name words refl refl ∙ row_is format words e

wsgi_is : (words : List Word) → list_any is_stray words ≡ false → by_clap (wsgi.name ∷ words) ≡ command_of (wsgi.name ∷ words)
unfolding clap_on_literals
wsgi_is words e = entered_at wsgi.name words refl refl ∙ row_is wsgi words e

serve_is : (words : List Word) → list_any is_stray words ≡ false → by_clap (serve.name ∷ words) ≡ command_of (serve.name ∷ words)
unfolding clap_on_literals
serve_is words e = entered_at serve.name words refl refl ∙ row_is serve words e

storm_is : (words : List Word) → list_any is_stray words ≡ false → by_clap (storm.name ∷ words) ≡ command_of (storm.name ∷ words)
unfolding clap_on_literals
storm_is words e = entered_at storm.name words refl refl ∙ row_is storm words e

verify_is : (words : List Word) → list_any is_stray words ≡ false → by_clap (verify.name ∷ words) ≡ command_of (verify.name ∷ words)
unfolding clap_on_literals
verify_is words e = entered_at verify.name words refl refl ∙ row_is verify words e

-- ---- a first word that names no command

record IsNone (name : Word) : Type 0 where
  run : bytes_eq name (codes "run") ≡ false
  format : bytes_eq name (codes "fmt") ≡ false
  wsgi : bytes_eq name (codes "wsgi") ≡ false
  serve : bytes_eq name (codes "serve") ≡ false
  storm : bytes_eq name (codes "storm") ≡ false
  verify : bytes_eq name (codes "verify") ≡ false

flip : (a b : Word) → bytes_eq a b ≡ false → bytes_eq b a ≡ false
flip a b e = differs b a (λ s. true≢false (sym ((bytes_eq-Decides a b).1 (sym s)) ∙ e))

no_command : (name : Word) (words : List Word) → IsNone name → command_of (name ∷ words) ≡ None
no_command name words n = rw (n.run, n.format, n.wsgi, n.serve, n.storm, n.verify) refl

turn_off : (name : Word) (words : List Word) (k : ErrorKind) (ks : Kinds) → turn_fault whole.top (names_of whole) (walk_from nothing_held) name ≡ k ∷ ks → by_clap (name ∷ words) ≡ None
unfolding walk_fault
turn_off name words k ks e = at_top_is (name ∷ words) ∙ rw (e, full k ks) refl

unknown_is : (name : Word) (words : List Word) → IsNone name → Plain name ⊎ ((p : Word × Option Word) × Long name p) → by_clap (name ∷ words) ≡ None
unknown_is name words n (inl p) = turn_off name words kind.UnknownArgument (kind.InvalidSubcommand ∷ [])
    (rw (flip name (codes "run") n.run, flip name (codes "fmt") n.format, flip name (codes "wsgi") n.wsgi, flip name (codes "serve") n.serve, flip name (codes "storm") n.storm, flip name (codes "verify") n.verify, p.ends, p.long, p.short) refl)
unknown_is name words n (inr q) = turn_off name words kind.UnknownArgument []
    (rw (flip name (codes "run") n.run, flip name (codes "fmt") n.format, flip name (codes "wsgi") n.wsgi, flip name (codes "serve") n.serve, flip name (codes "storm") n.storm, flip name (codes "verify") n.verify, q.1.ends, q.1.long) refl)

at_name : (name s : Word) (words : List Word) → bytes_eq name s ≡ true → by_clap (s ∷ words) ≡ command_of (s ∷ words) → by_clap (name ∷ words) ≡ command_of (name ∷ words)
at_name name s words e h = subst (λ w. by_clap (w ∷ words) ≡ command_of (w ∷ words)) (sym ((bytes_eq-Decides name s).0 e)) h

-- the command that `clap` finds is the one that the words name
pub answered : (words : List Word) → list_any is_stray words ≡ false → by_clap words ≡ command_of words
unfolding clap_on_literals
answered [] e = refl
answered (name ∷ words) e =
    a (bytes_eq name (codes "run")) (bytes_eq name (codes "fmt")) (bytes_eq name (codes "wsgi")) (bytes_eq name (codes "serve")) (bytes_eq name (codes "storm")) (bytes_eq name (codes "verify")) refl refl refl refl refl refl
  where
    rest : list_any is_stray words ≡ false
    rest = (or_parts (is_stray name) (list_any is_stray words) e).1

    a : (r f w s t v : Bool) → bytes_eq name (codes "run") ≡ r → bytes_eq name (codes "fmt") ≡ f → bytes_eq name (codes "wsgi") ≡ w → bytes_eq name (codes "serve") ≡ s
        → bytes_eq name (codes "storm") ≡ t → bytes_eq name (codes "verify") ≡ v → by_clap (name ∷ words) ≡ command_of (name ∷ words)
    a true f w s t v er ef ew es et ev = at_name name (codes "run") words er (run_is words rest)
    a false true w s t v er ef ew es et ev = at_name name (codes "fmt") words ef (format_is words rest)
    a false false true s t v er ef ew es et ev = at_name name (codes "wsgi") words ew (wsgi_is words rest)
    a false false false true t v er ef ew es et ev = at_name name (codes "serve") words es (serve_is words rest)
    a false false false false true v er ef ew es et ev = at_name name (codes "storm") words et (storm_is words rest)
    a false false false false false true er ef ew es et ev = at_name name (codes "verify") words ev (verify_is words rest)
    a false false false false false false er ef ew es et ev =
        let n : IsNone name = record { run = er; format = ef; wsgi = ew; serve = es; storm = et; verify = ev } in
        unknown_is name words n (view name (or_parts (is_stray name) (list_any is_stray words) e).0) ∙ sym (no_command name words n)

-- ---- words with a stray dash

or_true : (a b : Bool) → (a || b) ≡ true → a ≡ false → b ≡ true
or_true true b e f = absurd (true≢false f)
or_true false b e f = e

dash_of : (a b : Bool) → (a && b) ≡ true → a ≡ true
dash_of true b e = refl
dash_of false b e = e

module _ (names : List Word) (word : Word) (words : List Word) (ih : (o : Option Word) (said : Said) → options names words o said ≡ None) where
  later_by : (said : Said) (n : Word) (v : Option Word) → option_word word ≡ Some (n, v) → options names (word ∷ words) None said ≡ None
  later_by said n (Some v) e = rw (options, e) (no_and_then (options names words None) (says names n v said) (λ s. ih None s))
  later_by said n None e = by (is_among names n) refl
    where
      by : (b : Bool) → is_among names n ≡ b → options names (word ∷ words) None said ≡ None
      by true f = rw (options, e, f) (ih (Some n) said)
      by false f = rw (options, e, f) refl

  later : (o : Option Word) (said : Said) → options names (word ∷ words) o said ≡ None
  later None said = by (option_word word) refl
    where
      by : (p : Option (Word × Option Word)) → option_word word ≡ p → options names (word ∷ words) None said ≡ None
      by None e = rw (options, e) refl
      by (Some p) e = later_by said p.0 p.1 e
  later (Some n) said = by (begins_with_dash word) refl
    where
      by : (b : Bool) → begins_with_dash word ≡ b → options names (word ∷ words) (Some n) said ≡ None
      by true e = rw (options, e) refl
      by false e = rw (options, e) (no_and_then (options names words None) (says names n word said) (λ s. ih None s))

stray_here : (names : List Word) (word : Word) (words : List Word) → is_stray word ≡ true → (o : Option Word) (said : Said) → options names (word ∷ words) o said ≡ None
stray_here names word words f None said = stray_idle names word words said f
stray_here names word words f (Some n) said = rw (options, dash_of (begins_with_dash word) (not (is_some (option_word word))) f) refl

stray_options : (names words : List Word) → list_any is_stray words ≡ true → (o : Option Word) (said : Said) → options names words o said ≡ None
stray_options names [] e = absurd (true≢false (sym e))
stray_options names (word ∷ words) e = by (λ f. stray_options names words f) (is_stray word) refl
  where
    by : (list_any is_stray words ≡ true → (o : Option Word) (said : Said) → options names words o said ≡ None) → (b : Bool) → is_stray word ≡ b
        → (o : Option Word) (said : Said) → options names (word ∷ words) o said ≡ None
    by ih true f = stray_here names word words f
    by ih false f = later names word words (ih (or_true (is_stray word) (list_any is_stray words) e f))

stray_name : (name s : Word) → is_stray name ≡ true → is_stray s ≡ false → bytes_eq name s ≡ false
stray_name name s e f = differs name s (λ same. true≢false (sym e ∙ ap is_stray same ∙ f))

-- words with a stray dash name no command
pub stray_none : (words : List Word) → list_any is_stray words ≡ true → None ≡ command_of words
stray_none [] e = refl
stray_none (name ∷ words) e = sym (by (is_stray name) refl)
  where
    by : (b : Bool) → is_stray name ≡ b → command_of (name ∷ words) ≡ None
    by true f = no_command name words (record { run = stray_name name (codes "run") f refl; format = stray_name name (codes "fmt") f refl; wsgi = stray_name name (codes "wsgi") f refl; serve = stray_name name (codes "serve") f refl; storm = stray_name name (codes "storm") f refl; verify = stray_name name (codes "verify") f refl })
    by false f = no_and_then _ (row_of name) (λ row. ap (option_and_then (λ said. command_by row.name (value_in said)))
        (stray_options row.options words (or_true (is_stray name) (list_any is_stray words) e f) None []))
