-- Who is a member of a table when one comes, is taken out, is listed again and goes.
use Rattle.std.proofs.Common.{◌≡◌, ℕ, ◌+◌, ◌==◌, Bool, true, false, not, cond, List, [], ◌∷◌, ◌++◌, length, Option, Some, None, refl, sym, ap, ◌∙◌, subst, arith, length-append}
use Rattle.std.specs.List.{Contains}
use Rattle.std.proofs.lemmas.List.Elements.{Contains-append_left, Contains-append_right}
use Rattle.item_places.specs.Items.{without_number}
use Rattle.item_places.proofs.ItemLemmas.{contains_without}
use Rattle.stream_server.specs.declared.client.Client.{Client}
use Rattle.stream_server.specs.Members.{AreBelow}
use Rattle.stream_server.specs.Tables.{SeenTable, AreAdmitted, AreAdmittedBut, IsListed, Relists, client_count, with_members}
use Rattle.stream_net.proofs.Lists.{everywhere}

-- ---- lists of members

below_more : (n : ℕ) (ms : List ℕ) → AreBelow n ms → AreBelow (n + 1) (ms ++ n ∷ [])
below_more n [] h = (omega arith, tt)
below_more n (m ∷ ms) h = (let a = h.0 in omega (arith, a), below_more n ms h.1)

below_without : (n g : ℕ) (ms : List ℕ) → AreBelow n ms → AreBelow n (without_number g ms)
below_without n g [] h = tt
below_without n g (m ∷ ms) h = by (not (m == g)) (below_without n g ms h.1)
  where
    by : (b : Bool) → AreBelow n (without_number g ms) → AreBelow n (cond b (m ∷ without_number g ms) (without_number g ms))
    by true more = (h.0, more)
    by false more = more

-- ---- who was admitted

module _ {T : Type 0} where
  pub none_admitted : (table : SeenTable T) (next : ℕ) → table.members ≡ [] → ((k : ℕ) → IsListed table k None) → client_count table ≡ 0 → AreAdmitted table next
  none_admitted table next none nobody count = record {
    count = ap (λ (ms : List ℕ). length ms) none ∙ sym count;
    each = λ k client row. absurd (nobody k row.0 row.1);
    below = subst (AreBelow next) (sym none) tt;
  }

  -- nobody more was accepted
  pub admitted_still : (table : SeenTable T) (next next' : ℕ) → next' ≡ next → AreAdmitted table next → AreAdmitted table next'
  admitted_still table next next' same h = subst (AreAdmitted table) (sym same) h

  -- one more
  pub one_admitted : (old new : SeenTable T) (next next' k : ℕ) → AreAdmitted old next → k ≡ next → next' ≡ next + 1 → new ≡ with_members (old.members ++ k ∷ []) old → AreAdmittedBut new next' k
  one_admitted old new next next' k h is more now = subst (λ (t : SeenTable T). AreAdmittedBut t next' k) (sym now) record {
    count = length-append old.members (k ∷ []) ∙ ap (λ (n : ℕ). n + 1) h.count;
    each = λ j client row. Contains-append_left old.members (k ∷ []) j (h.each j client row);
    here = Contains-append_right old.members (k ∷ []) k (0, omega arith, refl);
    below = subst (λ (n : ℕ). AreBelow n (old.members ++ k ∷ [])) (ap (λ (n : ℕ). n + 1) is ∙ sym more) (below_more k old.members (subst (λ (n : ℕ). AreBelow n old.members) (sym is) h.below));
  }

  -- it is listed
  pub listed_again : (old new : SeenTable T) (next next' k j : ℕ) (client : Client T) → AreAdmittedBut old next k → Relists old new j (Some client) → j ≡ k → next' ≡ next → client_count new ≡ client_count old + 1
      → AreAdmitted new next'
  listed_again old new next next' k j client h relists same still count = record {
    count = ap (λ (ms : List ℕ). length ms) relists.members ∙ h.count ∙ sym count;
    each = everywhere j (λ i. (c : Client T) → IsListed new i (Some c) → Contains new.members i)
        (λ c row. subst (λ (ms : List ℕ). Contains ms j) (sym relists.members) (subst (Contains old.members) (sym same) h.here))
        (λ i other c row. subst (λ (ms : List ℕ). Contains ms i) (sym relists.members) (h.each i c (relists.others i (Some c) other row)));
    below = subst (λ (ms : List ℕ). AreBelow next' ms) (sym relists.members) (subst (λ (n : ℕ). AreBelow n old.members) (sym still) h.below);
  }

  -- one is taken out of the list
  pub taken_out : (old new : SeenTable T) (next k j : ℕ) (client : Client T) → AreAdmitted old next → IsListed old k (Some client) → Relists old new k None → j ≡ k → client_count new + 1 ≡ client_count old
      → AreAdmittedBut new next j
  taken_out old new next k j client h row relists same count = record {
    count = ap (λ (ms : List ℕ). length ms) relists.members ∙ h.count ∙ sym count;
    each = everywhere k (λ i. (c : Client T) → IsListed new i (Some c) → Contains new.members i)
        (λ c now. absurd (never_some c (relists.only (Some c) now)))
        (λ i other c now. subst (λ (ms : List ℕ). Contains ms i) (sym relists.members) (h.each i c (relists.others i (Some c) other now)));
    here = subst (λ (ms : List ℕ). Contains ms j) (sym relists.members) (subst (Contains old.members) (sym same) (h.each k client row));
    below = subst (λ (ms : List ℕ). AreBelow next ms) (sym relists.members) h.below;
  }
    where
      never_some : (c : Client T) → Some c ≡ None → ⊥
      never_some c e = absurd (cc)

  -- it goes
  pub released : (old new : SeenTable T) (next next' k : ℕ) → AreAdmittedBut old next k → ((slot : Option (Client T)) → IsListed old k slot → slot ≡ None) → next' ≡ next
      → new ≡ with_members (without_number k old.members) old → length new.members + 1 ≡ length old.members → AreAdmitted new next'
  released old new next next' k h only still now fewer = subst (λ (t : SeenTable T). AreAdmitted t next') (sym now) record {
    count = let e = ap (λ (t : SeenTable T). length t.members) now in omega (arith, e, fewer, h.count);
    each = everywhere k (λ i. (c : Client T) → IsListed old i (Some c) → Contains (without_number k old.members) i)
        (λ c row. absurd (never_some c (only (Some c) row)))
        (λ i other c row. contains_without k i old.members other (h.each i c row));
    below = below_without next' k old.members (subst (λ (n : ℕ). AreBelow n old.members) (sym still) h.below);
  }
    where
      never_some : (c : Client T) → Some c ≡ None → ⊥
      never_some c e = absurd (cc)
