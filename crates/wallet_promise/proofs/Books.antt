-- Conduct, lateness, forgeries and outcomes in a book, and in what is told of it.
use Rattle.std.proofs.Common.{◌≡◌, ◌⊎◌, ℕ, ◌+◌, ◌==◌, max, nat_le, nat_lt, Bool, true, false, cond, not, ◌&&◌, ◌||◌, List, [], ◌∷◌, ◌++◌}
use Rattle.std.proofs.Common.{filter, count_by, Option, Some, None, is_some, refl, sym, ap, ap₂, ◌∙◌, subst, inl, inr}
use Rattle.std.specs.List.{list_any, list_all, flat_map}
use Rattle.std.specs.Str.{bytes_eq}
use Rattle.swap_base.specs.Lists.{first_given_answer, greatest, IsElement, IsMoment, Moment, moments, moments_after_past}
use Rattle.swap_base.proofs.Lists.{and_both}
use Rattle.swap_digraph.specs.declared.deal.Mode.{Mode}
use Rattle.swap_digraph.specs.declared.deal.Mode.TheVariants.{Timelocks, Hashkeys}
use Rattle.swap_digraph.specs.declared.deal.Deal.{Deal}
use Rattle.swap_digraph.specs.Deal.{locks, leads, lock_hashlock}
use Rattle.swap_digraph.specs.Graph.{leaving, entering, is_listed}
use Rattle.swap_digraph.proofs.Paths.{is_listed-true}
use Rattle.hash_signature.specs.declared.sig.Sig.{Sig}
use Rattle.hash_signature.specs.Signature.{hashed_value}
use Rattle.hashkey_path.specs.declared.hashkey.Hashkey.{Hashkey}
use Rattle.hashkey_path.specs.Hashkey.{is_valid}
use Rattle.escrow_core.specs.Terms.{stated_terms, same_terms, refund_expiry}
use Rattle.escrow_core.specs.Table.{are_open}
use Rattle.ledger_core.specs.declared.entry.Call.{Call}
use Rattle.ledger_core.specs.declared.entry.Call.TheVariants.{Publish, Unlock, Claim, Refund, Transfer}
use Rattle.ledger_core.specs.declared.entry.Entry.{Entry}
use Rattle.ledger_core.specs.History.{height, accepted, published, opened, is_open}
use Rattle.ledger_core.specs.Book.{Histories, history}
use Rattle.ledger_core.proofs.History.{not-true}
use Rattle.swap_rules.specs.declared.finding.Rule.{Rule}
use Rattle.swap_rules.specs.declared.finding.Rule.TheVariants.{Publish as ToPublish, Unlock as ToUnlock, Claim as ToClaim, Refund as ToRefund}
use Rattle.swap_rules.specs.Party.{is_correct, is_arc_correct, is_ready, ready_height, is_triggered, expiry, least_expiry, leads_one, pick_call}
use Rattle.swap_rules.specs.Party.{unlock_hashkey, first_key, first_seen_key, opens_without_party}
use Rattle.swap_rules.specs.Conduct.{is_publish, is_first_key, carries, extends, extends_without_party, is_alone, has_seen, has_origin, keeps, keeps_entry}
use Rattle.swap_rules.specs.Late.{height_of_opening, is_carried, is_used, height_if, unlock_base, trigger_height, when, reference_height, counts, is_done}
use Rattle.swap_rules.specs.Late.{is_past_due, is_late}
use Rattle.swap_rules.specs.Forged.{has_made, has_forged_suffix, forges, is_forged}
use Rattle.swap_rules.specs.Due.{has_called}
use Rattle.swap_rules.specs.Laws.{IsUnforged}
use Rattle.swap_rules.proofs.Prefixes.{list_any-none, begins_refl}
use Rattle.wallet_promise.specs.WithoutNoise.{is_of_contract, is_told, telling, is_useless, is_needed, SaysTheSame, AreUseless, SayEnough}
use Rattle.wallet_promise.proofs.Filters.{first_given_answer-filter, list_any-filter, sum_by-filter, greatest-filter, all_moments-filter, moment-filter, moment_unfilter}
use Rattle.wallet_promise.proofs.Filters.{any-same, greatest-same, first_each, any_each}
use Rattle.wallet_promise.proofs.Telling.{noise, no_call, no_unlock, says_telling}
use Rattle.wallet_promise.proofs.Needed.{not_called, same_called, same_height, useless, silent_in, told_swap, says_enough}
use Rattle.wallet_promise.proofs.Enough as enough

-- Words of one call.

no_carried : (o : Option Hashkey) (c : Option Call) → is_of_contract c ≡ false → is_carried o c ≡ false
no_carried None c e = no_unlock (is_carried None) refl (λ to units. refl) c e
no_carried (Some key) c e = no_unlock (is_carried (Some key)) refl (λ to units. refl) c e

no_counts : (d : Deal) (v : ℕ) (b : Histories) (rule : Rule) (a at : ℕ) → counts d b v rule a at None ≡ false
unfolding counts
no_counts d v b ToPublish a at = refl
no_counts d v b (ToUnlock i) a at = refl
no_counts d v b ToClaim a at = refl
no_counts d v b ToRefund a at = refl

-- A history in which v made no call.

silent_moments : (v : ℕ) (Q : Moment Entry → Bool) (before h : List Entry)
    → ((past : List Entry) (e : Entry) → pick_call v e ≡ None → Q (record { past = past; now = e }) ≡ true)
    → ((e : Entry) → IsElement e h → pick_call v e ≡ None) → list_all Q (moments_after_past before h) ≡ true
silent_moments v Q before [] q n = refl
silent_moments v Q before (e ∷ h) q n =
    and_both (Q (record { past = before; now = e })) (list_all Q (moments_after_past (before ++ e ∷ []) h)) (q before e (n e (inl refl)))
    (silent_moments v Q (before ++ e ∷ []) h q (λ x i. n x (inr i)))

silent_keeps : (d : Deal) (v a : ℕ) (b : Histories) (h : List Entry) → has_called v is_some h ≡ false → list_all (keeps_entry d b v a) (moments h) ≡ true
unfolding keeps
silent_keeps d v a b h n =
    silent_moments v (keeps_entry d b v a) [] h (λ past e k. ap (keeps d b v a past e.height) k) (silent_in v h n)

silent_done : (d : Deal) (v a : ℕ) (b : Histories) (rule : Rule) (by : ℕ) (h : List Entry) → has_called v is_some h ≡ false
    → list_any (λ e. counts d b v rule a e.height (pick_call v e) && nat_le e.height by) h ≡ false
silent_done d v a b rule by h n =
    list_any-none (λ e. counts d b v rule a e.height (pick_call v e) && nat_le e.height by) h
    (λ e i. ap (λ x. x && nat_le e.height by) (ap (counts d b v rule a e.height) (silent_in v h n e i) ∙ no_counts d v b rule a e.height))

-- Numbers that matter only where a test holds.

middle_false : (x y z : Bool) (n : ℕ) → y ≡ false → when (x && y && z) n ≡ None
middle_false true false z n e = refl
middle_false false false z n e = refl
middle_false x true z n e = absurd (cc e)

first_false : (x y z : Bool) (n : ℕ) → x ≡ false → when (x && y && z) n ≡ None
first_false false y z n e = refl
first_false true y z n e = absurd (cc e)

where_middle : (x y z : Bool) (m n : ℕ) → (y ≡ true → m ≡ n) → when (x && y && z) m ≡ when (x && y && z) n
where_middle x true z m n e = ap (when (x && true && z)) (e refl)
where_middle x false z m n e = middle_false x false z m refl ∙ sym (middle_false x false z n refl)

where_last : (x l r : Bool) (m n : ℕ) → (r ≡ true → m ≡ n) → when (x && (l || r)) (cond l 0 m) ≡ when (x && (l || r)) (cond l 0 n)
where_last x true r m n e = refl
where_last x false true m n e = ap (when (x && true)) (e refl)
where_last true false false m n e = refl
where_last false false false m n e = refl

-- A book and what is told of it. Of each arc, the entries are told that v needs: those of a useless
-- arc if the arc is told as useless, and those of another arc otherwise. Only useless arcs are told
-- as such.
module _ (d : Deal) (v : ℕ) (u : ℕ → Bool) (b c : Histories) (is_part : (a : ℕ) → history c a ≡ filter (is_needed (u a) v) (history b a))
    (idle : (a : ℕ) → u a ≡ true → is_useless d v a (history b a) ≡ true) where
  pub enough_said : SayEnough d v c b
  enough_said = says_enough d v u b idle c b is_part (λ a. begins_refl (history b a))

  -- of an arc that leaves v all is told
  pub leaving_told : (a : ℕ) → IsElement a (leaving d.graph v) → u a ≡ false
  leaving_told a i = not-true (u a) (λ t. (useless d v a (history b a) (idle a t)).apart i)

  pub all_at : (a : ℕ) → u a ≡ false → history c a ≡ telling v (history b a)
  all_at a e = told_swap d v u b idle c b is_part a e

  pub silent_at : (a : ℕ) → u a ≡ true → has_called v is_some (history b a) ≡ false
  silent_at a e = (useless d v a (history b a) (idle a e)).silent

  pub calls_at : (a : ℕ) (test : Option Call → Bool) → test None ≡ false → has_called v test (history c a) ≡ has_called v test (history b a)
  calls_at a test n = ap (has_called v test) (is_part a) ∙ same_called (u a) v test n (history b a)

  pub heights_at : (a : ℕ) → height (history c a) ≡ height (history b a)
  heights_at a = ap height (is_part a) ∙ same_height (u a) v (history b a)

  says_at : (a : ℕ) → u a ≡ false → SaysTheSame v (history c a) (history b a)
  says_at a e = subst (λ z. SaysTheSame v z (history b a)) (sym (all_at a e)) (says_telling v (history b a))

  same_ready : is_ready d c v ≡ is_ready d b v
  same_ready = enough.same_ready d v c b enough_said

  pub says_leaving : (a : ℕ) → IsElement a (leaving d.graph v) → SaysTheSame v (history c a) (history b a)
  says_leaving a i = says_at a (leaving_told a i)

  same_first : (i : ℕ) → first_key c v i ≡ first_key b v i
  unfolding first_key
  same_first i =
      first_each (λ e. unlock_hashkey i (pick_call v e)) c b
      (λ a. ap (first_given_answer (λ e. unlock_hashkey i (pick_call v e))) (is_part a)
      ∙ first_given_answer-filter (is_needed (u a) v) (λ e. unlock_hashkey i (pick_call v e)) (history b a) (λ e t. ap (unlock_hashkey i) (not_called (u a) v e t)))

  -- Conduct.

  same_has_seen : (test : Option Call → Bool) → test None ≡ false → ((to units : ℕ) → test (Some (Transfer to units)) ≡ false)
      → has_seen d c v test ≡ has_seen d b v test
  same_has_seen test n t =
      any-same (λ a. list_any (λ e. test (accepted e)) (history c a)) (λ a. list_any (λ e. test (accepted e)) (history b a)) (leaving d.graph v)
      (λ a i. ap (list_any (λ e. test (accepted e))) (all_at a (leaving_told a i))
      ∙ list_any-filter (is_told v) (λ e. test (accepted e)) (history b a) (λ e u. no_unlock test n t (accepted e) (noise v e u).idle))

  same_origin : (m : Mode) (key : Hashkey) → has_origin m d c v key ≡ has_origin m d b v key
  same_origin Timelocks key = ap (λ x. leads d v key.lock || x) (same_has_seen (carries key.secret) refl (λ to units. refl))
  same_origin Hashkeys key = ap (λ x. cond (leads d v key.lock) (is_alone v key.path) x) (same_has_seen (extends_without_party v key) refl (λ to units. refl))

  same_count : (a : ℕ) → count_by (λ e. is_publish (pick_call v e)) (history c a) ≡ count_by (λ e. is_publish (pick_call v e)) (history b a)
  same_count a =
      ap (count_by (λ e. is_publish (pick_call v e))) (is_part a)
      ∙ sum_by-filter (is_needed (u a) v) (λ e. cond (is_publish (pick_call v e)) 1 0) (history b a)
      (λ e t. ap (λ o. cond {A = ℕ} (is_publish o) 1 0) (not_called (u a) v e t))

  same_keeps : (a : ℕ) (past : List Entry) (at : ℕ) (o : Option Call) → keeps d c v a (telling v past) at o ≡ keeps d b v a past at o
  unfolding keeps
  same_keeps a past at None = refl
  same_keeps a past at (Some (Publish t)) =
      ap₂ (λ n r. same_terms t (stated_terms d a) && (n == 1) && (leads_one d v || r)) (same_count a) same_ready
  same_keeps a past at (Some (Unlock key)) =
      ap₂ (λ p r. is_some p && r && is_first_key (first_key c v key.lock) key && is_valid d a (lock_hashlock d key.lock) key && has_origin d.mode d c v key)
      (says_telling v past).published same_ready
      ∙ ap₂ (λ f o. is_some (published past) && is_ready d b v && is_first_key f key && is_valid d a (lock_hashlock d key.lock) key && o)
      (same_first key.lock) (same_origin d.mode key)
  same_keeps a past at (Some Claim) = ap (λ (f : ℕ → Bool). list_all f (locks d)) (λ j i. is_some ((says_telling v past).opened i j))
  same_keeps a past at (Some Refund) =
      ap (λ (f : ℕ → Bool). list_any (λ i. not (f i) && nat_lt (expiry d a i) at) (locks d)) (λ j i. is_some ((says_telling v past).opened i j))
  same_keeps a past at (Some (Transfer to units)) = refl

  keeps_noise : (a : ℕ) (past : List Entry) (e : Entry) → is_told v e ≡ false → keeps d b v a past e.height (pick_call v e) ≡ true
  unfolding keeps
  keeps_noise a past e t = ap (keeps d b v a past e.height) (no_call v e (noise v e t).others)

  pub same_conduct : (a : ℕ) → list_all (keeps_entry d c v a) (moments (history c a)) ≡ list_all (keeps_entry d b v a) (moments (history b a))
  same_conduct a = go (u a) refl
    where
      go : (t : Bool) → u a ≡ t → list_all (keeps_entry d c v a) (moments (history c a)) ≡ list_all (keeps_entry d b v a) (moments (history b a))
      go false e =
          ap (λ h. list_all (keeps_entry d c v a) (moments h)) (all_at a e)
          ∙ all_moments-filter (is_told v) (keeps_entry d c v a) (keeps_entry d b v a) [] (history b a)
          (λ past e t. same_keeps a past e.height (pick_call v e)) (λ past e t. keeps_noise a past e t)
      go true e =
          silent_keeps d v a c (history c a) (calls_at a is_some refl ∙ silent_at a e) ∙ sym (silent_keeps d v a b (history b a) (silent_at a e))

  -- Lateness.

  no_used : (i : ℕ) (o : Option Hashkey) (e : Entry) → is_told v e ≡ false → is_used d b v i o e ≡ false
  no_used i None e t = no_carried (first_seen_key d b v i) (accepted e) (noise v e t).idle
  no_used i (Some key) e t = no_unlock (extends v key) refl (λ to units. refl) (accepted e) (noise v e t).idle

  same_used : (i : ℕ) (o : Option Hashkey) (e : Entry) → is_used d c v i o e ≡ is_used d b v i o e
  same_used i None e = ap (λ s. is_carried s (accepted e)) (enough.same_seen d v c b enough_said i)
  same_used i (Some key) e = refl

  used_at : (i : ℕ) (o : Option Hashkey) (a : ℕ) → IsElement a (leaving d.graph v)
      → greatest (λ e. height_if (is_used d c v i o e) e.height) (history c a) ≡ greatest (λ e. height_if (is_used d b v i o e) e.height) (history b a)
  used_at i o a l =
      ap₂ (λ (f : Entry → Bool) (h : List Entry). greatest (λ e. height_if (f e) e.height) h) (λ j e. same_used i o e j) (all_at a (leaving_told a l))
      ∙ greatest-filter (is_told v) (λ e. height_if (is_used d b v i o e) e.height) (history b a) (λ e t. ap (λ x. height_if x e.height) (no_used i o e t))

  same_base : (m : Mode) (i : ℕ) (o : Option Hashkey) → unlock_base m d c v i o ≡ unlock_base m d b v i o
  same_base Timelocks i o =
      greatest-same (λ a. height_of_opening (opened (history c a) i)) (λ a. height_of_opening (opened (history b a) i)) (leaving d.graph v)
      (λ a l. ap height_of_opening ((says_leaving a l).opened i))
  same_base Hashkeys i o =
      greatest-same (λ a. greatest (λ e. height_if (is_used d c v i o e) e.height) (history c a))
      (λ a. greatest (λ e. height_if (is_used d b v i o e) e.height) (history b a)) (leaving d.graph v) (used_at i o)

  same_others : (i : ℕ) → list_any (λ a. opens_without_party v (opened (history c a) i)) (leaving d.graph v)
      ≡ list_any (λ a. opens_without_party v (opened (history b a) i)) (leaving d.graph v)
  same_others i =
      any-same (λ a. opens_without_party v (opened (history c a) i)) (λ a. opens_without_party v (opened (history b a) i)) (leaving d.graph v)
      (λ a l. ap (opens_without_party v) ((says_leaving a l).opened i))

  same_ready_height : is_ready d b v ≡ true → ready_height d c v ≡ ready_height d b v
  same_ready_height r = enough.same_ready_height d v c b enough_said r

  -- the test and the number of an unlock
  abbrev may_open : Histories → ℕ → Bool
  may_open x i = leads d v i || is_some (first_key x v i) || list_any (λ y. opens_without_party v (opened (history x y) i)) (leaving d.graph v)

  same_may_open : (i : ℕ) → may_open c i ≡ may_open b i
  same_may_open i = ap₂ (λ k o. leads d v i || is_some k || o) (same_first i) (same_others i)

  abbrev open_height : Histories → ℕ → ℕ
  open_height x i = cond (leads d v i) (ready_height d x v) (max (ready_height d x v) (unlock_base d.mode d x v i (first_key x v i)))

  same_open_height : (i : ℕ) → is_ready d b v ≡ true → open_height c i ≡ open_height b i
  same_open_height i r =
      ap₂ (λ n m. cond (leads d v i) n (max n m)) (same_ready_height r) (ap (unlock_base d.mode d c v i) (same_first i) ∙ same_base d.mode i (first_key b v i))

  claim_told : (a : ℕ) → SaysTheSame v (history c a) (history b a) → reference_height d c v ToClaim a ≡ reference_height d b v ToClaim a
  unfolding reference_height
  claim_told a s =
      let same_open : is_open (history c a) ≡ is_open (history b a) = λ j i. is_some (s.opened i j) in
      ap₂ (λ x (f : ℕ → Bool). when (is_listed a (entering d.graph v) && is_arc_correct d a x && are_open d f) (trigger_height d (history c a)))
      s.published same_open
      ∙ ap (λ (f : ℕ → ℕ). when (is_listed a (entering d.graph v) && is_correct d b a && is_triggered d b a) (greatest f (locks d)))
      (λ j i. height_of_opening (s.opened i j))

  refund_told : (a : ℕ) → SaysTheSame v (history c a) (history b a) → reference_height d c v ToRefund a ≡ reference_height d b v ToRefund a
  unfolding reference_height
  refund_told a s =
      let same_open : is_open (history c a) ≡ is_open (history b a) = λ j i. is_some (s.opened i j) in
      ap₂ (λ x (f : ℕ → Bool). when (is_listed a (leaving d.graph v) && is_some x && not (are_open d f)) (refund_expiry d a (stated_terms d a) f))
      s.published same_open

  pub same_ref : (rule : Rule) (a : ℕ) → reference_height d c v rule a ≡ reference_height d b v rule a
  unfolding reference_height
  same_ref ToPublish a =
      ap (λ r. when (is_listed a (leaving d.graph v) && (leads_one d v || r)) (cond (leads_one d v) 0 (ready_height d c v))) same_ready
      ∙ where_last (is_listed a (leaving d.graph v)) (leads_one d v) (is_ready d b v) (ready_height d c v) (ready_height d b v) same_ready_height
  same_ref (ToUnlock i) a =
      ap₂ (λ r o. when (is_listed a (entering d.graph v) && r && o) (open_height c i)) same_ready (same_may_open i)
      ∙ where_middle (is_listed a (entering d.graph v)) (is_ready d b v) (may_open b i) (open_height c i) (open_height b i) (same_open_height i)
  same_ref ToClaim a = go (enough_said a)
    where
      go : SaysTheSame v (history c a) (history b a) ⊎ AreUseless d v a (history c a) (history b a) → reference_height d c v ToClaim a ≡ reference_height d b v ToClaim a
      go (inl s) = claim_told a s
      go (inr s) =
          middle_false (is_listed a (entering d.graph v)) (is_correct d c a) (is_triggered d c a) (trigger_height d (history c a)) s.one
          ∙ sym (middle_false (is_listed a (entering d.graph v)) (is_correct d b a) (is_triggered d b a) (trigger_height d (history b a)) s.other)
  same_ref ToRefund a = go (is_listed a (leaving d.graph v)) refl
    where
      go : (l : Bool) → is_listed a (leaving d.graph v) ≡ l → reference_height d c v ToRefund a ≡ reference_height d b v ToRefund a
      go true l = refund_told a (says_leaving a (is_listed-true a (leaving d.graph v) l))
      go false l =
          first_false (is_listed a (leaving d.graph v)) (is_some (published (history c a))) (not (is_triggered d c a)) (least_expiry d a (history c a)) l
          ∙ sym (first_false (is_listed a (leaving d.graph v)) (is_some (published (history b a))) (not (is_triggered d b a))
          (least_expiry d a (history b a)) l)

  same_counts : (rule : Rule) (a at : ℕ) (o : Option Call) → SaysTheSame v (history c a) (history b a) → counts d c v rule a at o ≡ counts d b v rule a at o
  unfolding counts
  same_counts ToPublish a at o s = refl
  same_counts (ToUnlock i) a at (Some (Unlock key)) s = ap (λ k. (key.lock == i) && is_first_key k key) (same_first i)
  same_counts (ToUnlock i) a at None s = refl
  same_counts (ToUnlock i) a at (Some (Publish t)) s = refl
  same_counts (ToUnlock i) a at (Some Claim) s = refl
  same_counts (ToUnlock i) a at (Some Refund) s = refl
  same_counts (ToUnlock i) a at (Some (Transfer to units)) s = refl
  same_counts ToClaim a at o s = refl
  same_counts ToRefund a at (Some Refund) s =
      ap (λ (f : ℕ → Bool). nat_lt (refund_expiry d a (stated_terms d a) f) at) (λ j i. is_some (s.opened i j))
  same_counts ToRefund a at None s = refl
  same_counts ToRefund a at (Some (Publish t)) s = refl
  same_counts ToRefund a at (Some (Unlock key)) s = refl
  same_counts ToRefund a at (Some Claim) s = refl
  same_counts ToRefund a at (Some (Transfer to units)) s = refl

  same_done : (rule : Rule) (a by : ℕ) → is_done d c v rule a by ≡ is_done d b v rule a by
  same_done rule a by = go (u a) refl
    where
      go : (t : Bool) → u a ≡ t → is_done d c v rule a by ≡ is_done d b v rule a by
      go false e =
          ap₂ (λ (f : ℕ → Option Call → Bool) (h : List Entry). list_any (λ e. f e.height (pick_call v e) && nat_le e.height by) h)
          (λ j at o. same_counts rule a at o (says_at a e) j) (all_at a e)
          ∙ list_any-filter (is_told v) (λ e. counts d b v rule a e.height (pick_call v e) && nat_le e.height by) (history b a)
          (λ e t. ap (λ x. x && nat_le e.height by) (ap (counts d b v rule a e.height) (no_call v e (noise v e t).others) ∙ no_counts d v b rule a e.height))
      go true e =
          silent_done d v a c rule by (history c a) (calls_at a is_some refl ∙ silent_at a e)
          ∙ sym (silent_done d v a b rule by (history b a) (silent_at a e))

  same_late_at : (rule : Rule) (a : ℕ) (o : Option ℕ) → is_past_due d c v rule a o ≡ is_past_due d b v rule a o
  same_late_at rule a None = refl
  same_late_at rule a (Some ref) = ap₂ (λ n x. nat_lt (ref + d.delta) n && not x) (heights_at a) (same_done rule a (ref + d.delta))

  pub same_late : (rule : Rule) (a : ℕ) → is_late d c v rule a ≡ is_late d b v rule a
  same_late rule a = ap (is_past_due d c v rule a) (same_ref rule a) ∙ same_late_at rule a (reference_height d b v rule a)

  -- Forgeries.

  same_any : (test : Option Call → Bool) → test None ≡ false
      → list_any (λ e. test (pick_call v e)) (flat_map (λ h. h) c) ≡ list_any (λ e. test (pick_call v e)) (flat_map (λ h. h) b)
  same_any test n = any_each (λ e. test (pick_call v e)) c b (λ a. calls_at a test n)

  same_made : (key : Hashkey) → has_made c v key ≡ has_made b v key
  same_made key = same_any (λ o. is_first_key (unlock_hashkey key.lock o) key) refl

  same_suffix : (key : Hashkey) (p : List ℕ) (s : List Sig) → has_forged_suffix c v key p s ≡ has_forged_suffix b v key p s
  same_suffix key (u ∷ p) (s ∷ sigs) =
      ap₂ (λ x y. ((u == v) && not x) || y) (same_made (record { lock = key.lock; secret = key.secret; path = u ∷ p; sigs = s ∷ sigs }))
      (same_suffix key p sigs)
  same_suffix key [] s = refl
  same_suffix key (u ∷ p) [] = refl

  same_forges : (m : Mode) (o : Option Call) → forges m d c v o ≡ forges m d b v o
  unfolding forges
  same_forges Timelocks (Some (Unlock key)) =
      ap (λ x. bytes_eq (hashed_value key.secret) (lock_hashlock d key.lock) && leads d v key.lock && not x) (same_any (carries key.secret) refl)
  same_forges Hashkeys (Some (Unlock key)) = same_suffix key key.path key.sigs
  same_forges Timelocks None = refl
  same_forges Timelocks (Some (Publish t)) = refl
  same_forges Timelocks (Some Claim) = refl
  same_forges Timelocks (Some Refund) = refl
  same_forges Timelocks (Some (Transfer to units)) = refl
  same_forges Hashkeys None = refl
  same_forges Hashkeys (Some (Publish t)) = refl
  same_forges Hashkeys (Some Claim) = refl
  same_forges Hashkeys (Some Refund) = refl
  same_forges Hashkeys (Some (Transfer to units)) = refl

  no_forgery : (m : Mode) (o : Option Call) → is_of_contract o ≡ false → forges m d b v o ≡ false
  unfolding forges
  no_forgery Timelocks o e = no_unlock (forges Timelocks d b v) refl (λ to units. refl) o e
  no_forgery Hashkeys o e = no_unlock (forges Hashkeys d b v) refl (λ to units. refl) o e

  pub forged_whole : IsUnforged d c v → IsUnforged d b v
  forged_whole n a past e i m = by (is_told v e) refl
    where
      by : (t : Bool) → is_told v e ≡ t → is_forged d b v e ≡ false
      by true t =
          sym (same_forges d.mode (accepted e))
          ∙ n a (telling v past) e i (subst (λ h. IsMoment h (telling v past) e) (sym (all_at a (leaving_told a i)))
          (moment-filter (is_told v) (history b a) past e m t))
      by false t = no_forgery d.mode (accepted e) (noise v e t).idle

  pub forged_told : IsUnforged d b v → IsUnforged d c v
  forged_told n a past e i m =
      let w = moment_unfilter (is_told v) (history b a) past e (subst (λ h. IsMoment h past e) (all_at a (leaving_told a i)) m) in
      same_forges d.mode (accepted e) ∙ n a w.0 e i w.1
