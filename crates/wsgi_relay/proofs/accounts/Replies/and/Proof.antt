-- The walk of `and`, which makes the list longer by one. Assumes `Logic`.
use Rattle.std.proofs.Common.{List, [], ◌∷◌, ◌++◌, refl}
use seplogic.Ra.Ura.{Ura}
use base.Logic.{SProp, ent}
use contract.Monad.{Fun}
use contract.Running.{tables, tables_of}
use denote.Builtin.{RefOf}
use denote.Exit.{yes}
use denote.RattleType.{owns}
use denote.Signature.{plain, types_at, named_lft}
use denote.Steps.{nothing}
use denote.Triple.Clauses.{Clauses, closing}
use denote.Triple.Entry.{alive}
use denote.Triple.Spec.{Meets, triple_of}
use denote.Triple.Table.{entered}
use denote.Triple.Walked.{says, Stays, stay_dropped, walk_of, ends_at, walk_Meets, Goes-dropped}
use mir.Val.{Val, vptr}
use prog.Memory.{Memory}
use prog.Routine.{Routine}
use prog.Wp.{Calls, Loops, WpFn, Tables}
use sound.WpLaws.{WpFn-mono}
use types.ByLocal.{alloc_all, pass_all, free_all, look_at, sets}
use types.Kit.{‵, raw, ◌⊛◌, prop, ◌$◌, ◌∵◌, !, qed, move, keep, drop, split, fsplit, fjoin, feq_l, regoal, suffices, done}
use types.Logic.{Logic}
use types.Part.{agg}
use types.Run.{enter, returns, no_more}
use Rattle.wsgi_core.specs.Steps.{answered_of}
use Rattle.wsgi_relay.specs.Accounts.{given_on}
use Rattle.gv_values.proofs.Fieldless.{made_of_nothing, no_fields}
use Rattle.wsgi_relay.specs.contracts.accounts.Replies as Replies
use Rattle.wsgi_relay.specs.contracts.accounts.GivenOn as GivenOn
use Rattle.wsgi_relay.specs.contracts.accounts.Replies.and as call
use Rattle.wsgi_relay.specs.contracts.accounts.Replies.and.Key.{name as #self}
use Rattle.wsgi_relay.proofs.accounts.Replies.and.Statement as stated
use Rattle.wsgi_relay.proofs.accounts.Replies.and.Code as code

abbrev stayed : Stays (call.ended).signature.params (call.ended).kept
stayed = (stay_dropped _ yes, (stay_dropped _ yes, tt))

module _ {M : Type 1} {𝓤 : Ura M} (𝓛 : Logic 𝓤) (at_mem : Memory → SProp 𝓤) (run : Routine → Fun 𝓤) where
  open 𝓛 use {H}

  abbrev held : Clauses 𝓤 call.ended
  held = call.clauses 𝓛 at_mem run

  module _ (C : Calls 𝓤 H) (Λ : Loops 𝓤 H) (z : (walk_of 𝓛 call.ended stayed held).Ghost) where
    abbrev Post : Val → SProp 𝓤
    Post = (walk_of 𝓛 call.ended stayed held).post z

    walks : ent 𝓤 ((walk_of 𝓛 call.ended stayed held).pre z) (WpFn 𝓤 H C Λ code.function ((walk_of 𝓛 call.ended stayed held).args z) Post)
    walks =
        let a = z.0.3 in
        let vss = z.0.4 in
        let before : Val = vptr a.0.ref_ptr.0 a.0.ref_ptr.1 in
        let owned : Val = vptr a.1.0.ref_ptr.0 a.1.0.ref_ptr.1 in
        let made : (Replies.the_row).Denot = record { list = ((a.1.0.now.conn, answered_of a.1.0.now.session.now), given_on a.1.0.now.session.now a.1.0.now.reply.now) ∷ a.0.now.list } in
        qed 𝓛 ((raw (alive 𝓛 (call.ended).signature z.0.0 z.0.1) ⊛ ‵ (owns (types_at (call.ended).signature.params z.0.0) a vss)) ∷ raw ((held z.0.0 a).requires z.1) ∷ []) ∵
        keep ! (0 ∷ []) $ split ! $ move ! (1 ∷ []) $ fsplit ! $ fsplit ! $ feq_l ! (λ is_before. drop ! $ fsplit ! $ fsplit ! $ feq_l ! (λ is_owned. drop ! $ drop ! $
        regoal ! (λ (us : List Val). prop (WpFn 𝓤 H C Λ code.function (us ++ (vss.1.0 ++ [])) Post)) is_before refl $
        regoal ! (λ (us : List Val). prop (WpFn 𝓤 H C Λ code.function ((before ∷ []) ++ (us ++ [])) Post)) is_owned refl $
        enter ! C Λ code.function (before ∷ owned ∷ []) Post $ alloc_all ! (λ l. pass_all ! refl ((tt, tt), ((tt, tt), tt)) $
        sets ! (agg ! (no_more !)) refl (tt, tt) $
        nothing ! $ made_of_nothing ! $ fjoin ! $
        returns ! (look_at ! 0 refl) $ free_all ! refl $
        suffices ! _ (ends_at 𝓛 call.ended stayed held z no_fields made (tt, (tt, tt)) (tt, (tt, tt))) $ says ! refl $
        nothing ! $ nothing ! $ fjoin ! $ nothing ! $ fjoin ! $ move ! (2 ∷ 0 ∷ 1 ∷ []) $ done !)))

  meets : (𝓣 : Tables 𝓤 H) → Meets 𝓛 (call.ended).signature (WpFn 𝓤 H 𝓣.C 𝓣.Λ code.function) (closing 𝓛 call.ended held)
  meets 𝓣 =
      walk_Meets 𝓛 call.ended stayed (
        Goes-dropped 𝓛 3 (RefOf (0 ∷ []) tt (plain (λ _. Replies.the_row)) (λ _. tt)) yes (λ κs x f. refl),
        (Goes-dropped 𝓛 3 (RefOf (1 ∷ []) tt (plain (λ κs. GivenOn.the_row (named_lft 3 2 tt κs))) (λ _. tt)) yes (λ κs x f. refl), tt),
      ) held
      (WpFn 𝓤 H 𝓣.C 𝓣.Λ code.function) (WpFn-mono 𝓤 H 𝓛.laws 𝓣 code.function) (walks 𝓣.C 𝓣.Λ)

pub and_spec : {M : Type 1} → stated.statement M
unfolding tables_of
and_spec 𝓤 𝓛 𝓜 𝓡 wired =
    let 𝓣 : Tables 𝓤 𝓛.H = tables_of 𝓤 𝓛.H 𝓜 (tables 𝓤 𝓛.H 𝓜 𝓡 𝓡.env) in
    entered 𝓤 𝓛.H (triple_of 𝓛 (call.ended).signature (closing 𝓛 call.ended (held 𝓛 𝓜.mem 𝓡.returns))) 𝓣.C 𝓣.Λ #self code.function
    (code.unfolded 𝓤 𝓛.H 𝓜 𝓡 wired) (meets 𝓛 𝓜.mem 𝓡.returns 𝓣)
