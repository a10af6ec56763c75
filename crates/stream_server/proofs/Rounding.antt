-- A server from event to event, by its service and its table.
use Rattle.std.proofs.Common.{◌≡◌, ◌⊎◌, inl, inr, ℕ, ◌+◌, ◌<◌, ◌≤◌, ◌==◌, min, Bool, true, false, List, [], ◌∷◌, ◌++◌, length, Option, Some, None, Result, Err, IsSome, refl, sym, ap, ◌∙◌, subst, arith}
use Rattle.std.specs.List.{All}
use Rattle.std.proofs.Math.Nat.{le_trans}
use Rattle.std.proofs.lemmas.Bool.Decides.{nat_tests}
use Rattle.wsgi_core.specs.Applications.{App}
use Rattle.item_places.specs.Items.{without_number}
use Rattle.stream_net.specs.Accepts.{Gains, GainsNone}
use Rattle.stream_net.specs.Net.{Changes, Connection, IsAtRest, IsFresh, IsLive, NetMeaning, closed_at, connection_at, held_as}
use Rattle.stream_net.specs.Waits.{MayWait, TimePasses, woken}
use Rattle.stream_net.specs.declared.net.Ready.{Ready}
use Rattle.stream_net.proofs.Lists.{all_from, at_all}
use Rattle.stream_server.specs.declared.client.Client.{Client}
use Rattle.stream_server.specs.declared.client.TheConstants.{NEVER}
use Rattle.stream_server.specs.declared.limits.Terms.{Terms}
use Rattle.stream_server.specs.declared.rounds.RoundFault.{RoundFault}
use Rattle.stream_server.specs.Protocols.{Apps, IsLawful, Protocol, side_of}
use Rattle.stream_server.specs.Running.{IsRunning, IsRunningBut, IsUnderWay, LeftBy, WasRunning}
use Rattle.stream_server.specs.Services.{AreBeside, HasRankFrom, IsHeldFrom, IsReleased, TiesFrom}
use Rattle.stream_server.specs.Keeping.{HasAccepted, IsServing, IsServingBut, IsStill}
use Rattle.stream_server.specs.Steps.{Free, IsCalm, IsCut, IsGoing, IsOpen, IsOver, IsResting, OnlyAt}
use Rattle.stream_server.specs.Tables.{AreAdmitted, AreAdmittedBut, IsListed, Relists, SeenTable, client_count, with_members}
use Rattle.stream_server.proofs.Admissions.{admitted_still, listed_again, none_admitted, one_admitted, released, taken_out}
use Rattle.stream_server.proofs.Stepping.{changed_length, only_length, only_none}
use Rattle.stream_server.proofs.Turns as turns

-- a fault that is handed on
pub same_fault : {A B : Type 0} (f one : RoundFault) → ◌≡◌ {A = Result A RoundFault} (Err f) (Err one) → ◌≡◌ {A = Result B RoundFault} (Err f) (Err one)
same_fault f one e = let same : f ≡ one = cc in ap (λ (x : RoundFault). Err x) same

pub returned_fault : {A B : Type 0} (r : Result A RoundFault) (v f one : RoundFault) → r ≡ Err v → v ≡ f → r ≡ Err one → ◌≡◌ {A = Result B RoundFault} (Err f) (Err one)
returned_fault r v f one is from e = let same : f ≡ one = cc in ap (λ (x : RoundFault). Err x) same

-- whether nobody is listed
pub none_listed : (b : Bool) (n : ℕ) → b ≡ (n == 0) → b ≡ true → n ≡ 0
none_listed b n e h = let test : (n == 0) ≡ true = sym e ∙ h in grind (arith, nat_tests)

pub some_listed : (b : Bool) (n : ℕ) → b ≡ (n == 0) → b ≡ false → n ≡ 0 → ⊥
some_listed b n e h none = let test : (n == 0) ≡ false = sym e ∙ h in absurd (grind (arith, nat_tests))

module _ {T : Type 0} where
  -- a listed client is found at its own number
  at_own : (now : SeenTable T) (k j : ℕ) (slot : Option (Client T)) → j ≡ k → ((s : Option (Client T)) → IsListed now j s → s ≡ slot) → (s : Option (Client T)) → IsListed now k s → s ≡ slot
  at_own now k j slot same h = subst (λ (n : ℕ). (s : Option (Client T)) → IsListed now n s → s ≡ slot) same h

  pub beside : (table now : SeenTable T) (k j : ℕ) → j ≡ k → AreBeside table now j → AreBeside table now k
  beside table now k j same h = subst (λ (n : ℕ). AreBeside table now n) same h

  -- the members of a table are nothing to its list
  pub list_kept : (table now : SeenTable T) (members : List ℕ) → now ≡ with_members members table → (k : ℕ) (slot : Option (Client T)) → IsListed now k slot → IsListed table k slot
  list_kept table now members is k slot row = subst (λ (t : SeenTable T). IsListed t k slot) is row

  -- ---- the rank of a client that is listed again

  -- it may be a higher one
  pub ties_more : (B : SeenTable T → ℕ → ℕ → ℕ → Type 0) (less more : ℕ) (table : SeenTable T) (n k : ℕ) → less ≤ more → TiesFrom B less table n k → TiesFrom B more table n k
  ties_more B less more table n k rises ties = (ties.0, le_trans ties.1 rises, ties.2)

  -- this client alone is listed, and has such a rank
  pub ranked_alone : (rank : T → ℕ) (low : ℕ) (table now : SeenTable T) (k : ℕ) (g : Client T) → g.conn ≡ k → low ≤ rank g.talk → Relists table now g.conn (Some g) → HasRankFrom rank low now k
  ranked_alone rank low table now k g same from relists h row = subst (λ (x : Client T). low ≤ rank x.talk) (sym (client_is h g (at_own now k g.conn (Some g) same relists.only (Some h) row))) from
    where
      client_is : (h g : Client T) → ◌≡◌ {A = Option (Client T)} (Some h) (Some g) → h ≡ g
      client_is h g e = cc

  -- none is listed
  pub ranked_none : (rank : T → ℕ) (low : ℕ) (table now : SeenTable T) (members : List ℕ) (k : ℕ) → now ≡ with_members members table → ((s : Option (Client T)) → IsListed table k s → s ≡ None) → HasRankFrom rank low now k
  ranked_none rank low table now members k is only h row = absurd (some_none h (only (Some h) (list_kept table now members is k (Some h) row)))
    where
      some_none : (h : Client T) → ◌≡◌ {A = Option (Client T)} (Some h) None → ⊥
      some_none h e = cc

  -- the same client is held alike
  pub same_holds : (holds : T → Bool) (g h : Client T) → ◌≡◌ {A = Option (Client T)} (Some h) (Some g) → holds g.talk ≡ holds h.talk
  same_holds holds g h e = let same : h ≡ g = cc in ap (λ (x : Client T). holds x.talk) (sym same)

module _ {T : Type 0} (P : Protocol T) (law : (app : App) (port : ℕ) → IsLawful (side_of P app port)) (terms : Terms) where
  -- ---- the ends

  pub running_left : (F : Apps → Type 0) (A : SeenTable T → ℕ → Type 0) (m : NetMeaning) (table : SeenTable T) → IsRunning P F A terms m table → LeftBy P F terms m
  running_left F A m table h apps fits = turns.serving_left P law terms.port terms.limits apps m (IsListed table) (client_count table) table.limit (h.serving apps fits)

  pub running_listens : (F : Apps → Type 0) (A : SeenTable T → ℕ → Type 0) (m : NetMeaning) (table : SeenTable T) (one : Apps) → F one → IsRunning P F A terms m table → IsSome m.listens
  running_listens F A m table one fits h = (h.serving one fits).listens

  pub running_rests : (F : Apps → Type 0) (A : SeenTable T → ℕ → Type 0) (m : NetMeaning) (table : SeenTable T) (one : Apps) → F one → IsRunning P F A terms m table → All (IsStill P.holds) m.connections
  running_rests F A m table one fits h = (h.serving one fits).resting

  -- the net wasn't touched, and the service knows more
  pub known_left : (E F : Apps → Type 0) (A : SeenTable T → ℕ → Type 0) (m : NetMeaning) (table : SeenTable T) → ((apps : Apps) → E apps → F apps) → IsRunning P F A terms m table → LeftBy P E terms m
  known_left E F A m table knows h apps fits = running_left F A m table h apps (knows apps fits)

  -- it ended at a client that goes on
  pub goes_left : (E F : Apps → Type 0) (B : SeenTable T → ℕ → ℕ → Type 0) (m : NetMeaning) (table : SeenTable T) (g : Client T) → ((apps : Apps) → E apps → F apps) → IsRunningBut P F B terms m table g.conn
      → IsUnderWay P F terms m g → LeftBy P E terms m
  goes_left E F B m table g knows h going apps fits =
      turns.but_cut P law terms.port terms.limits apps m (IsListed table) (client_count table) table.limit g.conn (h.serving apps (knows apps fits))
      (turns.served_going (side_of P (apps g.conn) terms.port) terms.limits (law (apps g.conn) terms.port) (connection_at m.connections g.conn) g (going apps (knows apps fits)))

  -- memory ran out in a step
  pub cut_left : (F : Apps → Type 0) (B : SeenTable T → ℕ → ℕ → Type 0) (u v : NetMeaning) (table : SeenTable T) (k : ℕ) → IsRunningBut P F B terms u table k → IsLive u k → OnlyAt u v k
      → ((apps : Apps) → F apps → IsCut (P.said (apps k) terms.port) (connection_at v.connections k)) → LeftBy P F terms v
  cut_left F B u v table k h live only cut apps fits =
      turns.client_cut P law terms.port terms.limits apps u v (IsListed table) (client_count table) table.limit k (h.serving apps fits) live only (cut apps fits)

  -- ---- a client that isn't listed

  pub but_place : (F : Apps → Type 0) (B : SeenTable T → ℕ → ℕ → Type 0) (m : NetMeaning) (table : SeenTable T) (k : ℕ) (one : Apps) → F one → IsRunningBut P F B terms m table k → client_count table < table.limit
  but_place F B m table k one fits h = let s = h.serving one fits in let few = s.few in let room = s.room_is in omega (arith, few, room)

  pub but_only : (F : Apps → Type 0) (B : SeenTable T → ℕ → ℕ → Type 0) (m : NetMeaning) (table : SeenTable T) (k : ℕ) (one : Apps) → F one → IsRunningBut P F B terms m table k
      → (slot : Option (Client T)) → IsListed table k slot → slot ≡ None
  but_only F B m table k one fits h = (h.serving one fits).only

  -- what goes over its connection is nothing to the others
  pub but_more : (F : Apps → Type 0) (B : SeenTable T → ℕ → ℕ → Type 0) (u v : NetMeaning) (table : SeenTable T) (k j : ℕ) → IsRunningBut P F B terms u table k → IsLive u k → OnlyAt u v k → j ≡ k
      → IsRunningBut P F B terms v table j
  but_more F B u v table k j h live only same =
      subst (λ (n : ℕ). IsRunningBut P F B terms v table n) (sym same) record {
        serving = λ apps fits. turns.but_after P law terms.port terms.limits apps u v (IsListed table) (client_count table) table.limit k (h.serving apps fits) live.accepted only;
        tied = subst (λ (n : ℕ). B table n k) (sym (only_length u v k only)) h.tied;
        admitted = subst (λ (n : ℕ). AreAdmittedBut table n k) (sym (only_length u v k only)) h.admitted;
      }

  -- its rank rose
  pub but_rises : (F : Apps → Type 0) (B : SeenTable T → ℕ → ℕ → ℕ → Type 0) (less more : ℕ) (m : NetMeaning) (table : SeenTable T) (k : ℕ) → less ≤ more → IsRunningBut P F (TiesFrom B less) terms m table k → IsRunningBut P F (TiesFrom B more) terms m table k
  but_rises F B less more m table k rises h = record { serving = h.serving; tied = ties_more B less more table (length m.connections) k rises h.tied; admitted = h.admitted }

  -- its connection rests
  pub running_waits : (F : Apps → Type 0) (A : SeenTable T → ℕ → Type 0) (B : SeenTable T → ℕ → ℕ → Type 0) (u v : NetMeaning) (table now : SeenTable T) (k : ℕ) (g : Client T) → IsRunningBut P F B terms u table k → IsLive u k → OnlyAt u v k
      → ((apps : Apps) → F apps → IsOpen (side_of P (apps k) terms.port) terms.limits.idle (connection_at v.connections k) g × IsResting (side_of P (apps k) terms.port) (connection_at v.connections k) g) → g.conn ≡ k → P.holds g.talk ≡ false
      → ((n : ℕ) → B table n k → AreBeside table now k → A now n) → Relists table now g.conn (Some g) → client_count now ≡ client_count table + 1 → IsRunning P F A terms v now
  running_waits F A B u v table now k g h live only rests same free again relists count = record {
    serving = λ apps fits. turns.client_waits P law terms.port terms.limits apps u v (IsListed table) (IsListed now) (client_count table) (client_count now) table.limit now.limit k g.conn g (h.serving apps fits) live only
        ((rests apps fits).0, Free free (rests apps fits).1) same count relists.limit relists.only relists.others;
    tied = subst (λ (n : ℕ). A now n) (sym (only_length u v k only)) (again (length u.connections) h.tied (beside table now k g.conn same relists.others));
    admitted = listed_again table now (length u.connections) (length v.connections) k g.conn g h.admitted relists same (only_length u v k only) count;
  }

  -- its connection is closed
  pub running_over : (F : Apps → Type 0) (A : SeenTable T → ℕ → Type 0) (B : SeenTable T → ℕ → ℕ → Type 0) (u v w : NetMeaning) (table now : SeenTable T) (k : ℕ) (g : Client T) (one : Apps) → F one → IsRunningBut P F B terms u table k → IsLive u k
      → OnlyAt u v k → ((apps : Apps) → F apps → IsOver (side_of P (apps k) terms.port) terms.limits.idle (connection_at v.connections k) g) → Changes v w k (closed_at w.moment) → ((n : ℕ) → B table n k → AreBeside table now k → A now n)
      → now ≡ with_members (without_number k table.members) table → length now.members + 1 ≡ length table.members → IsRunning P F A terms w now
  running_over F A B u v w table now k g one fits_one h live only over closes again is fewer =
      let long : length w.connections ≡ length u.connections = changed_length v w k (closed_at w.moment) closes ∙ only_length u v k only in
      record {
        serving = λ apps fits. subst (λ (t : SeenTable T). IsServing P apps terms.port terms.limits w (IsListed t) (client_count t) t.limit) (sym is)
            (turns.client_over P law terms.port terms.limits apps u v w (IsListed table) (client_count table) table.limit k g (h.serving apps fits) live only (over apps fits) closes);
        tied = subst (λ (n : ℕ). A now n) (sym long) (again (length u.connections) h.tied (λ j s other row. list_kept table now (without_number k table.members) is j s row));
        admitted = released table now (length u.connections) (length w.connections) k h.admitted (h.serving one fits_one).only long is fewer;
      }

  -- its connection is held
  pub running_held : (E F : Apps → Type 0) (A : SeenTable T → ℕ → Type 0) (B : SeenTable T → ℕ → ℕ → Type 0) (v w : NetMeaning) (table now : SeenTable T) (g h : Client T) → ((apps : Apps) → E apps → F apps) → IsRunningBut P F B terms v table g.conn → IsLive v g.conn
      → IsUnderWay P F terms v g → Changes v w g.conn (held_as true) → IsHeldFrom P g h
      → ((t s : SeenTable T) (n : ℕ) → B t n g.conn → g.conn < n → Relists t s h.conn (Some h) → A s n)
      → Relists table now h.conn (Some h) → client_count now ≡ client_count table + 1 → IsRunning P E A terms w now
  running_held E F A B v w table now g h knows but live going holds held ties relists count =
      let long : length w.connections ≡ length v.connections = changed_length v w g.conn (held_as true) holds in
      record {
        serving = λ apps fits. turns.client_held P law terms.port terms.limits apps v v w (IsListed table) (IsListed now) (client_count table) (client_count now) table.limit now.limit g.conn g h
            (but.serving apps (knows apps fits)) live (only_none v g.conn) (going apps (knows apps fits)) holds held.ended held.never held.held held.kept
            (λ fed ended taken at. held.stands (apps g.conn) terms.port fed ended taken at) count relists.limit (at_own now g.conn h.conn (Some h) held.conn relists.only) (beside table now g.conn h.conn held.conn relists.others);
        tied = subst (λ (n : ℕ). A now n) (sym long) (ties table now (length v.connections) but.tied live.accepted relists);
        admitted = listed_again table now (length v.connections) (length w.connections) g.conn h.conn h but.admitted relists held.conn long count;
      }

  -- ---- an acceptance

  pub running_new : (F : Apps → Type 0) (A : SeenTable T → ℕ → Type 0) (B : SeenTable T → ℕ → ℕ → Type 0) (v w : NetMeaning) (table now : SeenTable T) (k : ℕ) → IsRunning P F A terms v table → Gains v w k → client_count table < table.limit
      → length v.connections < terms.limits.conns → ((n : ℕ) → A table n → ((j : ℕ) (slot : Option (Client T)) → IsListed now j slot → IsListed table j slot) → B now (n + 1) n)
      → now ≡ with_members (table.members ++ k ∷ []) table → IsRunningBut P F B terms w now k
  running_new F A B v w table now k h gains place more ties is = record {
    serving = λ apps fits. subst (λ (t : SeenTable T). IsServingBut P apps terms.port terms.limits w (IsListed t) (client_count t) t.limit k) (sym is)
        (turns.new_but P law terms.port terms.limits apps v w (IsListed table) (client_count table) table.limit k (h.serving apps fits) gains place more);
    tied = subst (λ (n : ℕ). B now n k) (sym (turns.gains_length v w k gains)) (subst (λ (n : ℕ). B now (length v.connections + 1) n) (sym gains.number)
        (ties (length v.connections) h.tied (list_kept table now (table.members ++ k ∷ []) is)));
    admitted = one_admitted table now (length v.connections) (length w.connections) k h.admitted gains.number (turns.gains_length v w k gains) is;
  }

  -- there was no memory to admit it
  pub new_left : (F : Apps → Type 0) (A : SeenTable T → ℕ → Type 0) (v w : NetMeaning) (table : SeenTable T) (g : Client T) → IsRunning P F A terms v table → Gains v w g.conn → client_count table < table.limit → length v.connections < terms.limits.conns
      → IsUnderWay P F terms w g → LeftBy P F terms w
  new_left F A v w table g h gains place more going apps fits =
      turns.new_left P law terms.port terms.limits apps v w (IsListed table) (client_count table) table.limit g.conn g (h.serving apps fits) gains place more (going apps fits)

  -- it goes on from the start of its talk
  pub begun_going : (F : Apps → Type 0) (v w : NetMeaning) (k : ℕ) (talk : T) (moment deadline : ℕ) → Gains v w k → ((app : App) → P.at app terms.port [] false [] talk) → P.holds talk ≡ false → moment ≡ w.moment
      → deadline ≡ min (moment + terms.limits.idle) NEVER → IsUnderWay P F terms w record { conn = k; talk = talk; ended = false; deadline = deadline }
  begun_going F v w k talk moment deadline x begins free now last apps fits =
      turns.new_going (side_of P (apps k) terms.port) terms.limits (law (apps k) terms.port) v w k talk moment deadline x (begins (apps k)) free now last

  -- nobody came, or nothing else changed
  pub running_same : (F : Apps → Type 0) (A : SeenTable T → ℕ → Type 0) (v w : NetMeaning) (table : SeenTable T) (blocked : Bool) → IsRunning P F A terms v table → GainsNone v w blocked → IsRunning P F A terms w table
  running_same F A v w table blocked h none =
      let long : length w.connections ≡ length v.connections = ap (λ (cs : List Connection). length cs) none.connections in
      record {
        serving = λ apps fits. turns.none_new P law terms.port terms.limits apps v w (IsListed table) (client_count table) table.limit blocked (h.serving apps fits) none;
        tied = subst (λ (n : ℕ). A table n) (sym long) h.tied;
        admitted = admitted_still table (length v.connections) (length w.connections) long h.admitted;
      }

  -- ---- a wait

  pub running_after : (F : Apps → Type 0) (A : SeenTable T → ℕ → Type 0) (v w : NetMeaning) (table : SeenTable T) → IsRunning P F A terms v table → TimePasses v w → w.connections ≡ v.connections → IsRunning P F A terms w table
  running_after F A v w table h passes same =
      let long : length w.connections ≡ length v.connections = ap (λ (cs : List Connection). length cs) same in
      record {
        serving = λ apps fits. turns.serving_after P law terms.port terms.limits apps v w (IsListed table) (client_count table) table.limit (h.serving apps fits) passes same;
        tied = subst (λ (n : ℕ). A table n) (sym long) h.tied;
        admitted = admitted_still table (length v.connections) (length w.connections) long h.admitted;
      }

  pub running_woken : (F : Apps → Type 0) (A : SeenTable T → ℕ → Type 0) (v w : NetMeaning) (table : SeenTable T) (k : ℕ) → IsRunning P F A terms v table → TimePasses v w → w.connections ≡ woken k v.connections → WasRunning P F A terms w table k
  running_woken F A v w table k h passes is =
      let long : length w.connections ≡ length v.connections = ap (λ (cs : List Connection). length cs) is ∙ turns.named_length (Ready.Readable k) v.connections in
      record {
        woken = λ apps fits. record { before = v; serving = h.serving apps fits; passes = passes; named = is };
        tied = subst (λ (n : ℕ). A table n) (sym long) h.tied;
        admitted = admitted_still table (length v.connections) (length w.connections) long h.admitted;
      }

  pub may_wait : (F : Apps → Type 0) (A : SeenTable T → ℕ → Type 0) (m : NetMeaning) (table : SeenTable T) (until : Option ℕ) (one : Apps) → F one → IsRunning P F A terms m table → (0 < client_count table → IsSome until)
      → (client_count table ≡ 0 → m.blocked ≡ true) → MayWait m until
  may_wait F A m table until one fits h ends asked =
      let s = h.serving one fits in
      record {
        quiet = all_from IsAtRest m.connections (λ j in'. turns.still_rests P.holds (connection_at m.connections j) (at_all (IsStill P.holds) m.connections s.resting j in'));
        ends = λ some. ends (subst (λ (n : ℕ). 0 < n) s.live some);
        asked = λ none. asked (sym s.live ∙ none);
      }

  -- nobody was found under the name
  pub running_unknown : (F : Apps → Type 0) (A : SeenTable T → ℕ → Type 0) (w : NetMeaning) (table now : SeenTable T) (k : ℕ) → WasRunning P F A terms w table k → IsListed table k None → now ≡ table → IsRunning P F A terms w now
  running_unknown F A w table now k h row same = subst (λ (t : SeenTable T). IsRunning P F A terms w t) (sym same) record {
    serving = λ apps fits. turns.unknown_named P law terms.port terms.limits apps w (IsListed table) (client_count table) table.limit k (h.woken apps fits) row;
    tied = h.tied;
    admitted = h.admitted;
  }

  -- its client was found, and isn't held
  pub running_found : (F : Apps → Type 0) (A : SeenTable T → ℕ → Type 0) (B : SeenTable T → ℕ → ℕ → Type 0) (w : NetMeaning) (table now : SeenTable T) (k : ℕ) (g : Client T) (one : Apps) → F one → WasRunning P F A terms w table k → IsListed table k (Some g) → g.conn ≡ k
      → P.holds g.talk ≡ false → ((n : ℕ) → A table n → IsListed table k (Some g) → P.holds g.talk ≡ false → AreBeside table now k → B now n k) → Relists table now k None → client_count now + 1 ≡ client_count table
      → IsRunningBut P F B terms w now g.conn × IsLive w g.conn × IsUnderWay P F terms w g
  running_found F A B w table now k g one fits_one h row same free ties relists count =
      let known : (apps : Apps) → F apps → IsServingBut P apps terms.port terms.limits w (IsListed now) (client_count now) now.limit g.conn × IsLive w g.conn × IsGoing (side_of P (apps g.conn) terms.port) terms.limits.idle (connection_at w.connections g.conn) g =
      λ apps fits.
      let n = turns.known_at P law terms.port terms.limits apps w (IsListed table) (IsListed now) (client_count table) (client_count now) table.limit now.limit k g.conn g (h.woken apps fits) same row count relists.limit relists.only relists.others in
      (n.0, n.1, n.2) in (
        record {
          serving = λ apps fits. (known apps fits).0;
          tied = subst (λ (n : ℕ). B now (length w.connections) n) (sym same) (ties (length w.connections) h.tied row free relists.others);
          admitted = taken_out table now (length w.connections) k g.conn g h.admitted row relists same count;
        },
        (known one fits_one).1,
        λ apps fits. (known apps fits).2,
      )

  -- its client was found, and is held
  pub running_held_on : (F : Apps → Type 0) (A : SeenTable T → ℕ → Type 0) (w : NetMeaning) (table : SeenTable T) (k : ℕ) (g : Client T) → WasRunning P F A terms w table k → IsListed table k (Some g) → P.holds g.talk ≡ true
      → IsRunning P F A terms w table
  running_held_on F A w table k g h row held = record {
    serving = λ apps fits. turns.held_named P law terms.port terms.limits apps w (IsListed table) (client_count table) table.limit k g (h.woken apps fits) row held;
    tied = h.tied;
    admitted = h.admitted;
  }

  -- ---- a reply that was waited for

  -- none has come
  pub running_polled : (E F : Apps → Type 0) (A A' : SeenTable T → ℕ → Type 0) (m : NetMeaning) (table now : SeenTable T) → ((apps : Apps) → E apps → F apps) → ((n : ℕ) → A table n → A' now n) → now ≡ table → IsRunning P F A terms m table
      → IsRunning P E A' terms m now
  running_polled E F A A' m table now knows ties same h = record {
    serving = λ apps fits. subst (λ (t : SeenTable T). IsServing P apps terms.port terms.limits m (IsListed t) (client_count t) t.limit) (sym same) (h.serving apps (knows apps fits));
    tied = ties (length m.connections) h.tied;
    admitted = subst (λ (t : SeenTable T). AreAdmitted t (length m.connections)) (sym same) h.admitted;
  }

  -- the connection of the client to which it was given is live
  pub held_live : (E F : Apps → Type 0) (A : SeenTable T → ℕ → Type 0) (m : NetMeaning) (table now : SeenTable T) (h : Client T) (one : Apps) → F one → IsRunning P F A terms m table → IsReleased P E table now h → IsLive m h.conn
  held_live E F A m table now h one fits r is = let was = (r.serving one fits).kept h.conn (Some is.was) is.listed in record { accepted = was.0; still_open = was.1.still_open }

  -- it is released
  pub running_released : (E F : Apps → Type 0) (A : SeenTable T → ℕ → Type 0) (B : SeenTable T → ℕ → ℕ → Type 0) (v w : NetMeaning) (table now : SeenTable T) (h : Client T) (one : Apps) → E one → ((apps : Apps) → E apps → F apps) → IsRunning P F A terms v table
      → IsReleased P E table now h → ((n : ℕ) → A table n → B now n h.conn) → Changes v w h.conn (held_as false)
      → IsRunningBut P E B terms w now h.conn × IsLive w h.conn × IsUnderWay P E terms w h
  running_released E F A B v w table now h one fits_one knows r is ties frees =
      let long : length w.connections ≡ length v.connections = changed_length v w h.conn (held_as false) frees in
      let live : IsLive v h.conn = held_live E F A v table now h one (knows one fits_one) r is in
      let x : (apps : Apps) → E apps → IsServingBut P apps terms.port terms.limits w (IsListed now) (client_count now) now.limit h.conn × IsLive w h.conn × IsGoing (side_of P (apps h.conn) terms.port) terms.limits.idle (connection_at w.connections h.conn) h =
      λ apps fits.
      let s = r.serving apps (knows apps fits) in
      let was = s.kept h.conn (Some is.was) is.listed in
      let but = turns.but_taken P law terms.port terms.limits apps v (IsListed table) (IsListed now) (client_count table) (client_count now) table.limit now.limit h.conn s is.count is.relists.limit is.relists.only is.relists.others in
      turns.client_released P law terms.port terms.limits apps v w (IsListed now) (client_count now) now.limit h.conn is.was h but live was.1 was.2 frees is.ended is.held is.later is.free
      (λ fed ended taken at. is.stands apps fits terms.port fed ended taken at) in (
        record {
          serving = λ apps fits. (x apps fits).0;
          tied = subst (λ (n : ℕ). B now n h.conn) (sym long) (ties (length v.connections) r.tied);
          admitted = subst (λ (n : ℕ). AreAdmittedBut now n h.conn) (sym long) (taken_out table now (length v.connections) h.conn h.conn is.was r.admitted is.listed is.relists refl is.count);
        },
        (x one fits_one).1,
        λ apps fits. (x apps fits).2,
      )

  -- nobody is listed and more may be accepted, so nobody was there
  pub all_asked : (F : Apps → Type 0) (A : SeenTable T → ℕ → Type 0) (m : NetMeaning) (table : SeenTable T) (one : Apps) → F one → IsRunning P F A terms m table → (accepted : ℕ) → HasAccepted accepted terms.limits.conns (length table.members) table.limit m
      → 1 ≤ terms.limits.pool → (accepted ≡ terms.limits.conns → ⊥) → client_count table ≡ 0 → m.blocked ≡ true
  all_asked F A m table one fits h accepted has place more none = by has.why
    where
      s : IsServing P one terms.port terms.limits m (IsListed table) (client_count table) table.limit
      s = h.serving one fits

      by : (terms.limits.conns ≤ accepted) ⊎ ((table.limit ≤ length table.members) ⊎ (m.blocked ≡ true)) → m.blocked ≡ true
      by (inl all) = let within = s.within in let number = has.number in absurd (more (omega (arith, all, within, number)))
      by (inr (inl full)) = let room = s.room_is in let count = h.admitted.count in absurd (omega (arith, full, room, count, place, none))
      by (inr (inr blocked)) = blocked

  -- ---- idle connections

  -- one whose deadline has come isn't held
  pub idle_free : (c : Connection) (g : Client T) (moment : ℕ) (app : App) → IsOpen (side_of P app terms.port) terms.limits.idle c g → IsCalm (side_of P app terms.port) terms.limits.idle c g → g.deadline ≤ moment → moment < NEVER → c.held ≡ false
  idle_free c g moment app o calm due short = o.held ∙ (turns.due_rests (side_of P app terms.port) terms.limits (law app terms.port) c g moment calm due short).0

  pub running_idle : (F : Apps → Type 0) (A : SeenTable T → ℕ → Type 0) (B : SeenTable T → ℕ → ℕ → Type 0) (v w : NetMeaning) (table less now : SeenTable T) (moment : ℕ) (g : Client T) (one : Apps) → F one → IsRunning P F A terms v table
      → IsListed table g.conn (Some g) → Relists table less g.conn None → client_count less + 1 ≡ client_count table → Changes v w g.conn (closed_at w.moment) → g.deadline ≤ moment → moment < NEVER → moment ≤ v.moment
      → ((n : ℕ) → A table n → IsListed table g.conn (Some g) → P.holds g.talk ≡ false → AreBeside table less g.conn → B less n g.conn) → ((n : ℕ) → B less n g.conn → AreBeside less now g.conn → A now n)
      → now ≡ with_members (without_number g.conn less.members) less → length now.members + 1 ≡ length less.members → IsRunning P F A terms w now
  running_idle F A B v w table less now moment g one fits_one h row relists count closes due short past out again is fewer =
      let long : length w.connections ≡ length v.connections = changed_length v w g.conn (closed_at w.moment) closes in
      let was = (h.serving one fits_one).kept g.conn (Some g) row in
      let rests = turns.due_rests (side_of P (one g.conn) terms.port) terms.limits (law (one g.conn) terms.port) (connection_at v.connections g.conn) g moment was.2 due short in
      record {
        serving = λ apps fits. subst (λ (t : SeenTable T). IsServing P apps terms.port terms.limits w (IsListed t) (client_count t) t.limit) (sym is)
            (turns.idle_closed P law terms.port terms.limits apps v w (IsListed table) (IsListed less) (client_count table) (client_count less) table.limit less.limit g.conn moment g (h.serving apps fits) row count relists.limit relists.only relists.others
            closes due short past);
        tied = subst (λ (n : ℕ). A now n) (sym long)
            (again (length v.connections) (out (length v.connections) h.tied row rests.0 relists.others) (λ j s other at_j. list_kept less now (without_number g.conn less.members) is j s at_j));
        admitted = released less now (length v.connections) (length w.connections) g.conn (taken_out table less (length v.connections) g.conn g.conn g h.admitted row relists refl count) relists.only long is fewer;
      }

  -- ---- the start and the end

  pub running_first : (F : Apps → Type 0) (A : SeenTable T → ℕ → Type 0) (m : NetMeaning) (table : SeenTable T) → IsFresh m → IsSome m.listens → client_count table ≡ 0 → table.limit ≡ terms.limits.pool → table.members ≡ [] → ((k : ℕ) → IsListed table k None)
      → ((t : SeenTable T) → A t 0) → IsRunning P F A terms m table
  running_first F A m table fresh listens count limit members nobody tied = record {
    serving = λ apps fits. turns.nothing_yet P law terms.port terms.limits apps m (IsListed table) (client_count table) table.limit fresh listens count limit (λ k g row. nobody k row.0 row.1);
    tied = subst (λ (n : ℕ). A table n) (sym (ap (λ (cs : List Connection). length cs) fresh.none)) (tied table);
    admitted = none_admitted table (length m.connections) members nobody count;
  }

  pub running_closed : (F : Apps → Type 0) (A : SeenTable T → ℕ → Type 0) (m : NetMeaning) (table : SeenTable T) (one : Apps) → F one → IsRunning P F A terms m table → client_count table ≡ 0 → All (λ (c : Connection). c.closed ≡ true) m.connections
  running_closed F A m table one fits h none = turns.all_closed P law terms.port terms.limits one m (IsListed table) (client_count table) table.limit (h.serving one fits) none
