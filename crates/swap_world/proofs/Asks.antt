-- A party that asks its strategy: the question, the answer, and the state after it where slots may
-- be swept.
use Rattle.std.proofs.Common.{◌≡◌, inr, Result, Ok, Err, OnOk, OnErr, IfOk, ℕ, ◌+◌, ◌<◌, Bool, false, List, [], ◌∷◌, ◌++◌, length, set, Option}
use Rattle.std.proofs.Common.{get_or, None, refl, sym, ap, ap₂, ◌∙◌, subst, arith, length-append}
use Rattle.std.specs.Result.{is_err}
use Rattle.std.proofs.lemmas.List.{get_or_at}
use Rattle.std.proofs.lemmas.List.Elements.{All-nil, All-cons}
use Rattle.std.proofs.lemmas.Bool.{false≢true}
use Rattle.swap_digraph.specs.declared.deal.Deal.{Deal}
use Rattle.ledger_core.specs.declared.entry.Call.{Call}
use Rattle.ledger_core.specs.Value.{LedgerState}
use Rattle.ledger_core.specs.Book.{Histories}
use Rattle.swap_run.specs.View.{MayAnswer}
use Rattle.swap_job.specs.declared.event.Event.TheVariants.{Act}
use Rattle.swap_job.specs.declared.job.Role.{Role}
use Rattle.swap_job.specs.declared.job.Role.TheVariants as kinds
use Rattle.swap_run.specs.Asked.{Answers, with_answers}
use Rattle.swap_run.specs.Run.{Cast, Plan, Question, State}
use Rattle.swap_run.specs.Called.{apply_step}
use Rattle.swap_run.specs.Laws.{IsReadyCast, IsGood, IsKept}
use Rattle.swap_world.specs.Cast.{made_cast}
use Rattle.swap_world.specs.Value.{WorldState}
use Rattle.swap_world.specs.Acting.{histories, taken, seen, party_told, asked_once, answer_question}
use Rattle.swap_world.specs.Gone.{MayGive, Answered, MayBeGiven, HasAsked, HasGone}
use Rattle.swap_world.specs.On.{IsCutWithSweeps, event_told}
use Rattle.swap_world.specs.declared.call_outcome.Told.{Told}
use Rattle.swap_world.specs.Inside.{strategy_name, asked_questions, ArePartyActors}
use Rattle.swap_world.specs.Players.{Actor}
use Rattle.swap_world.specs.declared.player.Player.TheVariants.{Planned}
use Rattle.swap_world.proofs.States.{IsPlanAt, answered, answered_told, plan_notes, state}
use Rattle.swap_world.proofs.Disks.{HaveSigned, have_signed}
use Rattle.swap_world.proofs.Worlds.{good_step, kept_step, world}
use Rattle.swap_job.specs.Crafted.{Seeds}

-- as many questions as parties that asked
pub questions_each : (roles : List Role) (ps : List ℕ) (ns : List Plan) → length ps ≡ length ns → length (asked_questions roles ps ns) ≡ length ps
questions_each roles [] ns e = refl
questions_each roles (p ∷ ps) [] e = absurd (cc e)
questions_each roles (p ∷ ps) (n ∷ ns) e = let l = questions_each roles ps ns (omega (arith, e)) in omega (arith, l)

-- one more question
pub questions_more : (roles : List Role) (ps : List ℕ) (ns : List Plan) (p : ℕ) (n : Plan) → length ps ≡ length ns
    → asked_questions roles (ps ++ p ∷ []) (ns ++ n ∷ []) ≡ asked_questions roles ps ns ++ answer_question (strategy_name (get_or roles p kinds.Manual)) p n ∷ []
questions_more roles [] [] p n e = refl
questions_more roles [] (m ∷ ns) p n e = absurd (cc e)
questions_more roles (q ∷ ps) [] p n e = absurd (cc e)
questions_more roles (q ∷ ps) (m ∷ ns) p n e =
    ap (λ (qs : List Question). answer_question (strategy_name (get_or roles q kinds.Manual)) q m ∷ qs) (questions_more roles ps ns p n (omega (arith, e)))

-- Party p, which plans n, has asked the strategy of that name, and o was answered.
pub record IsAsking (gives : MayGive) (d : Deal) (conforming : List Bool) (seeds : Seeds) (roles : List Role) (ps : List ℕ) (ns : List Plan)
    (os : List (Option (ℕ × Call))) (ls : List LedgerState) (xs : List Actor) (p : ℕ) (n : Plan) (name : List ℕ) (o : Option (ℕ × Call))
    (ps' : List ℕ) (ns' : List Plan) (os' : List (Option (ℕ × Call))) : Type 0 where
  pub askers : length ps ≡ length os
  pub told : length ns ≡ length os
  pub place : IsPlanAt d conforming seeds roles (asked_questions roles ps ns) ls xs p n
  pub role : get_or roles p kinds.Manual ≡ kinds.Strategy name
  pub may : MayAnswer d p o
  pub given : gives name d p n.turns n.known o
  pub asker : ps' ≡ ps ++ p ∷ []
  pub plan : ns' ≡ ns ++ n ∷ []
  pub answer : os' ≡ os ++ o ∷ []

module _ {gives : MayGive} {d : Deal} {conforming : List Bool} {seeds : Seeds} {roles : List Role} {ps : List ℕ} {ns : List Plan}
    {os : List (Option (ℕ × Call))} {ls : List LedgerState} {xs : List Actor} {p : ℕ} {n : Plan} {name : List ℕ} {o : Option (ℕ × Call)}
    {ps' : List ℕ} {ns' : List Plan} {os' : List (Option (ℕ × Call))} (sw : ℕ → Bool)
    (k : IsAsking gives d conforming seeds roles ps ns os ls xs p n name o ps' ns' os') where
  abbrev c : Cast
  c = made_cast d conforming seeds roles

  abbrev before : List Question
  before = asked_questions roles ps ns

  abbrev after : List Question
  after = asked_questions roles ps' ns'

  abbrev s : State
  s = state d before xs (histories ls)

  asks_more : after ≡ before ++ answer_question name p n ∷ []
  asks_more =
      ap₂ (λ (x : List ℕ) (y : List Plan). asked_questions roles x y) k.asker k.plan
      ∙ (questions_more roles ps ns p n (k.askers ∙ sym k.told)
      ∙ ap (λ (x : List ℕ). before ++ answer_question x p n ∷ []) (ap strategy_name k.role))

  -- the answers go on so
  abbrev pub Follows : Answers → Type 0
  Follows g = (i : ℕ) → i < length os' → g i ≡ get_or os' i None

  now_is : (g : Answers) → Follows g → g (length before) ≡ o
  now_is g e =
      let longer : length os' ≡ length os + 1 = ap length k.answer ∙ length-append os (o ∷ []) in
      ap g (questions_each roles ps ns (k.askers ∙ sym k.told) ∙ k.askers)
      ∙ (e (length os) (omega arith)
      ∙ (ap (λ (x : List (Option (ℕ × Call))). get_or x (length os) None) k.answer ∙ get_or_at os o [] None (length os) refl))

  -- the state after the act, with any answers that go on so
  stepped : (g : Answers) → Follows g → (new : Plan) (b : Histories) → b ≡ taken sw d p o (histories ls)
      → new ≡ seen sw d p o (histories ls) (asked_once n) → state d after (set xs p (Planned new)) b ≡ apply_step sw (with_answers c g) s (Act p)
  stepped g e new b eb en =
      ap (λ (x : List Question). state d x (set xs p (Planned new)) b) asks_more
      ∙ answered d conforming seeds roles before ls xs sw g p n new b name o k.place k.role (now_is g e) k.may eb en

  -- the histories alone
  stepped_book : (g : Answers) → Follows g → taken sw d p o (histories ls) ≡ (apply_step sw (with_answers c g) s (Act p)).book
  stepped_book g e =
      ap (λ (t : State). t.book) (stepped g e (seen sw d p o (histories ls) (asked_once n)) (taken sw d p o (histories ls)) refl refl)

  -- the world before
  abbrev pub old : Bool → WorldState
  old stopped = world d conforming seeds roles os stopped s

  -- the world with another plan and other histories
  abbrev pub now : Bool → Plan → Histories → WorldState
  now stopped new b = world d conforming seeds roles os' stopped (state d after (set xs p (Planned new)) b)

  has_asked : (x y : Bool) (new : Plan) (b : Histories) → HasAsked gives (old x) (now y new b)
  has_asked x y new b =
      let one : Answered = record { question = answer_question name p n; answer = o } in
      record {
        more = one ∷ [];
        questions = asks_more;
        answers = k.answer;
        may = All-cons (MayBeGiven gives d) one [] k.given (All-nil (MayBeGiven gives d));
      }

  pub has_gone : {A E : Type 0} (r : Result A E) (x y : Bool) (new : Plan) (b : Histories) → y ≡ is_err r → x ≡ false
      → b ≡ taken sw d p o (histories ls) → OnOk r (new ≡ seen sw d p o (histories ls) (asked_once n))
      → OnOk r (HasGone gives (λ c s. apply_step sw c s (Act p)) (old x) (now y new b))
  has_gone (Ok u) x y new b is on eb en = record {
    asked = has_asked x y new b;
    same = ap (λ (z : Bool). now z new b) (is ∙ sym on);
    state = λ g e. stepped g e new b eb en;
  }
  has_gone (Err u) x y new b is on eb en = tt

  pub is_cut : {A E : Type 0} (r : Result A E) (x y : Bool) (new : Plan) (b : Histories) → b ≡ taken sw d p o (histories ls)
      → OnErr r (IsCutWithSweeps gives sw (Act p) (old x) (now y new b))
  is_cut (Ok u) x y new b eb = tt
  is_cut (Err u) x y new b eb = record { cast = refl; asked = has_asked x y new b; book = inr (λ g e. eb ∙ stepped_book g e) }

  -- what the party is told
  told_asked : (g : Answers) → Follows g → party_told sw d p o (histories ls) ≡ event_told sw (with_answers c g) s (Act p)
  told_asked g e = answered_told d conforming seeds roles before ls xs sw g p n name o k.place k.role (now_is g e) k.may

  pub has_told : {E : Type 0} (r : Result Told E) → IfOk r (λ t. t ≡ party_told sw d p o (histories ls))
      → IfOk r (λ t. (g : Answers) → Follows g → t ≡ event_told sw (with_answers c g) s (Act p))
  has_told (Ok t) e = λ g f. e ∙ told_asked g f
  has_told (Err u) e = tt

  -- the answers so far
  abbrev so_far : Answers
  so_far i = get_or os' i None

  pub good_asked : {A E : Type 0} (r : Result A E) (y : Bool) (new : Plan) (b : Histories) → y ≡ is_err r → y ≡ false
      → b ≡ taken sw d p o (histories ls) → OnOk r (new ≡ seen sw d p o (histories ls) (asked_once n))
      → IsReadyCast c → p < d.graph.n → IsGood c s → IsGood c (state d after (set xs p (Planned new)) b)
  good_asked (Ok u) y new b is on eb en ready can good =
      subst (IsGood c) (sym (stepped so_far (λ i l. refl) new b eb en)) (good_step c so_far sw s (Act p) ready can good)
  good_asked (Err u) y new b is on eb en ready can good = absurd (false≢true (sym on ∙ is))

  pub kept_asked : (b : Histories) → b ≡ taken sw d p o (histories ls) → IsReadyCast c → p < d.graph.n → IsGood c s → IsKept c b
  kept_asked b eb ready can good =
      subst (IsKept c) (sym (eb ∙ stepped_book so_far (λ i l. refl))) (kept_step c so_far sw s (Act p) ready can good)

  -- what machines signed, over the histories after the call that was answered
  pub signed_asked : (b : Histories) → b ≡ taken sw d p o (histories ls) → ArePartyActors d conforming seeds roles xs → IsReadyCast c → p < d.graph.n
      → IsGood c s → HaveSigned d b xs
  signed_asked b eb actors ready can good =
      let is = stepped so_far (λ i l. refl) (seen sw d p o (histories ls) (asked_once n)) (taken sw d p o (histories ls)) refl refl in
      subst (λ (h : Histories). HaveSigned d h xs) (sym (eb ∙ stepped_book so_far (λ i l. refl)))
      (have_signed d conforming seeds roles (apply_step sw (with_answers c so_far) s (Act p)) xs actors (good_step c so_far sw s (Act p) ready can good)
      (sym (ap (λ (t : State). t.notes) is)
      ∙ plan_notes d conforming seeds roles before ls xs p n (seen sw d p o (histories ls) (asked_once n)) k.place))
