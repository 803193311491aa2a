-- What is read of an input holds digests: the moves of its scripts and of its events.
use Rattle.std.proofs.Common.{◌≡◌, ◌==◌, ◌+◌, ℕ, nat_le, Bool, true, false, cond, List, [], ◌∷◌, length, Option}
use Rattle.std.proofs.Common.{Some, None, Ok, Err, ap, subst, codes}
use Rattle.std.specs.Prelude.{All}
use Rattle.std.proofs.lemmas.List.Elements.{All-cons, All-map, All-nil}
use Rattle.hex.specs.Hex.{decode_sized}
use Rattle.swap_digraph.specs.Deal.{most_parties}
use Rattle.swap_digraph.specs.declared.deal.Version.{Version}
use Rattle.hash_signature.specs.declared.sig.Sig.{Sig}
use Rattle.hash_signature.specs.Signature.{text_values}
use Rattle.hashkey_path.specs.declared.hashkey.Hashkey.{Hashkey}
use Rattle.command_input.specs.declared.reason.Reason.TheVariants.{OverLimit}
use Rattle.swap_job.specs.declared.event.Event.{Event}
use Rattle.swap_job.specs.declared.event.Event.TheVariants.{Tick, Look, Act, Call as Made, Crash}
use Rattle.swap_job.specs.declared.job.Job.{Job}
use Rattle.swap_job.specs.declared.job.Purpose.{Purpose}
use Rattle.swap_job.specs.declared.job.Role.{Role}
use Rattle.swap_job.specs.declared.job.Role.TheVariants as kinds
use Rattle.swap_job.specs.declared.moves.Move.{Move}
use Rattle.swap_job.specs.declared.moves.Move.TheVariants.{Publish, Craft, Replay, Raw, Claim, Refund, Transfer, Wait}
use Rattle.offer_moves.specs.Fields.{parse_data}
use Rattle.offer_moves.specs.FieldLimits.{decoded, to_digest, ranged_number, check_range}
use Rattle.offer_moves.specs.Lists.{collected_results}
use Rattle.offer_moves.specs.Names.{party_of_name}
use Rattle.offer_moves.proofs.Chains.{each_all}
use Rattle.offer_moves.specs.declared.moves.Sizes.{Sizes}
use Rattle.offer_moves.specs.declared.raw.RawTerms.{RawTerms}
use Rattle.offer_moves.specs.declared.raw.RawKey.{RawKey}
use Rattle.offer_moves.specs.declared.raw.RawCraft.{RawCraft}
use Rattle.offer_moves.specs.declared.raw.RawMove.{RawMove}
use Rattle.offer_moves.specs.declared.raw.RawMove.TheVariants as raws
use Rattle.offer_moves.specs.Limits.{kept, limited_locks, number_below_count, optional_locks, optional_most, parse_sig}
use Rattle.offer_moves.specs.Moves.{parse_arc, parse_claim, parse_craft, checked_hashkey, parse_move, optional_arc, make_publish, parse_refund, parse_replay}
use Rattle.offer_moves.specs.Moves.{deal_sizes, parse_transfer}
use Rattle.offer_moves.specs.Moves.{parse_unlock, parse_wait}
use Rattle.offer_moves.specs.Placed.{adjacent, deviating}
use Rattle.offer_events.specs.declared.raw.RawEvent.{RawEvent}
use Rattle.offer_events.specs.declared.raw.RawEvent.TheVariants as raw_events
use Rattle.offer_events.specs.Event.{asked_event, checked_event, conforming_crash, parse_event, event_of_act, event_of_call, event_of_crash, event_of_look}
use Rattle.offer_events.specs.Event.{event_of_tick, outside_race, permitted}
use Rattle.offer_events.specs.Reading.{raw_event}
use Rattle.offer_header.specs.declared.limits.Acting.{Acting}
use Rattle.offer_header.specs.declared.names.Numbered.{Numbered}
use Rattle.offer_header.specs.declared.raw.RawActor.{RawActor}
use Rattle.offer_header.specs.declared.raw.RawActor.TheVariants.{Conforming, Manual, Script, Strategy}
use Rattle.offer_header.specs.declared.raw.RawHeader.{RawHeader}
use Rattle.offer_header.specs.declared.raw.RawParty.{RawParty}
use Rattle.offer_header.specs.declared.header.Header.{Header}
use Rattle.offer_header.specs.Header.{parse_whole_header}
use Rattle.offer_header.specs.Limits.{parse_acting, limited_value, count_parties, checked_role, script_role, checked_seed, header_sizes}
use Rattle.offer_header.specs.Names.{numbered_header}
use Rattle.offer_header.specs.Raw.{object_header}
use Rattle.offer_header.specs.Scripts.{scripts_placed}
use Rattle.offer_header.proofs.Limited.{opened}
use Rattle.swap_offer.specs.Checks.{admitted, assemble_job}
use Rattle.swap_offer.specs.Job.{accepted_entries, parse_events, parse_header_job, limited_event, provided}
use Rattle.typed_books.specs.Typed.{IsDigest, IsSignature}
use Rattle.transcript_book.proofs.Exact.{each_value, many_values}
use Rattle.read_back.proofs.Onward.{landed, onward}
use Rattle.read_back.proofs.Showable.{decoded_bytes, digest_is}
use Rattle.program_laws.proofs.Hashes.{May, KeyHas}
use Rattle.program_laws.proofs.Calls.{MoveHas}
use Rattle.program_laws.proofs.States.{EventHas, RoleHas}

-- ---- signatures

sig_has : (line : ℕ) (text : List ℕ) (s : Sig) → parse_sig line text ≡ Ok s → IsSignature s
unfolding parse_sig
sig_has line text =
    onward (decoded line (codes "sigs") (decode_sized text 2144)) _ IsSignature (λ bytes b.
    let k = decoded_bytes line (codes "sigs") 2144 text bytes b in
    landed (text_values bytes) IsSignature (record { size = many_values bytes; values = each_value bytes k.0 k.1 }))

-- ---- moves

kept_has : (ds : List (List ℕ)) → All IsDigest ds → All IsDigest (kept ds)
kept_has ds h = by (nat_le (length ds) 8)
  where
    by : (t : Bool) → All IsDigest (cond t ds [])
    by true = h
    by false = All-nil IsDigest

locks_have : (line count : ℕ) (texts ds : List (List ℕ)) → limited_locks line count texts ≡ Ok ds → All IsDigest ds
unfolding limited_locks
locks_have line count texts =
    onward (check_range line (codes "locks") count count (length texts)) _ (All IsDigest) (λ u w.
    onward (collected_results (to_digest line (codes "locks")) texts) _ (All IsDigest) (λ digests e.
    landed (kept digests) (All IsDigest)
    (kept_has digests (each_all IsDigest (to_digest line (codes "locks")) (λ text xs d. digest_is line (codes "locks") text xs d) texts digests e))))

optional_has : (line count : ℕ) (o : Option (List (List ℕ))) (locks : Option (List (List ℕ))) → optional_locks line count o ≡ Ok locks
    → May (All IsDigest) locks
optional_has line count None = landed None (May (All IsDigest)) tt
optional_has line count (Some texts) =
    onward (limited_locks line count texts) _ (May (All IsDigest)) (λ locks l.
    landed (Some locks) (May (All IsDigest)) (locks_have line count texts locks l))

publish_has : (s : Sizes) (line n : ℕ) (t : RawTerms) (mv : Move) → make_publish s line n t ≡ Ok mv → MoveHas mv
unfolding make_publish
publish_has s line n t =
    onward (parse_arc s line (codes "arc") n) _ MoveHas (λ arc a.
    onward (optional_most line (codes "start") 1000000 t.start) _ MoveHas (λ start b.
    onward (optional_most line (codes "delta") 1000000 t.delta) _ MoveHas (λ delta c.
    onward (optional_most line (codes "bound") 1000000 t.bound) _ MoveHas (λ bound e.
    onward (optional_most line (codes "timelock") 1000000 t.timelock) _ MoveHas (λ timelock f.
    onward (optional_most line (codes "amount") 1000000000000 t.amount) _ MoveHas (λ amount g.
    onward (optional_locks line s.locks t.locks) _ MoveHas (λ locks l.
    landed (Publish arc start delta bound timelock amount locks) MoveHas (optional_has line s.locks t.locks locks l))))))))

craft_has : (s : Sizes) (names : List (List ℕ)) (line n : ℕ) (k : RawCraft) (mv : Move) → parse_craft s names line n k ≡ Ok mv → MoveHas mv
unfolding parse_craft
craft_has s names line n k =
    onward (collected_results (party_of_name line names) k.via) _ MoveHas (λ via a.
    onward (parse_arc s line (codes "arc") n) _ MoveHas (λ arc b.
    onward (number_below_count line (codes "lock") s.locks k.lock) _ MoveHas (λ lock c.
    onward (check_range line (codes "via") 1 s.path (length k.via)) _ MoveHas (λ u e.
    onward (optional_arc s line (codes "onto") k.onto) _ MoveHas (λ onto f. landed (Craft arc lock via onto) MoveHas tt)))))

replay_has : (s : Sizes) (line n m k : ℕ) (mv : Move) → parse_replay s line n m k ≡ Ok mv → MoveHas mv
unfolding parse_replay
replay_has s line n m k =
    onward (parse_arc s line (codes "arc") n) _ MoveHas (λ arc a.
    onward (number_below_count line (codes "lock") s.locks m) _ MoveHas (λ lock b.
    onward (parse_arc s line (codes "onto") k) _ MoveHas (λ onto c. landed (Replay arc lock onto) MoveHas tt)))

key_has : (s : Sizes) (line : ℕ) (path : List ℕ) (k : RawKey) (key : Hashkey) → checked_hashkey s line path k ≡ Ok key → KeyHas key
unfolding checked_hashkey
key_has s line path k =
    onward (number_below_count line (codes "lock") s.locks k.lock) _ KeyHas (λ lock a.
    onward (to_digest line (codes "secret") k.secret) _ KeyHas (λ secret b.
    onward (check_range line (codes "path") 0 s.path (length k.path)) _ KeyHas (λ u c.
    onward (check_range line (codes "sigs") 0 s.path (length k.sigs)) _ KeyHas (λ w e.
    onward (collected_results (parse_sig line) k.sigs) _ KeyHas (λ sigs f.
    landed (record { lock = lock; secret = secret; path = path; sigs = sigs }) KeyHas (
      digest_is line (codes "secret") k.secret secret b,
      each_all IsSignature (parse_sig line) (sig_has line) k.sigs sigs f,
    ))))))

unlock_has : (s : Sizes) (names : List (List ℕ)) (line n : ℕ) (k : RawKey) (mv : Move) → parse_unlock s names line n k ≡ Ok mv → MoveHas mv
unfolding parse_unlock
unlock_has s names line n k =
    onward (collected_results (party_of_name line names) k.path) _ MoveHas (λ path a.
    onward (parse_arc s line (codes "arc") n) _ MoveHas (λ arc b.
    onward (checked_hashkey s line path k) _ MoveHas (λ key c. landed (Raw arc key) MoveHas (key_has s line path k key c))))

claim_has : (s : Sizes) (line n : ℕ) (mv : Move) → parse_claim s line n ≡ Ok mv → MoveHas mv
unfolding parse_claim
claim_has s line n = onward (parse_arc s line (codes "arc") n) _ MoveHas (λ arc a. landed (Claim arc) MoveHas tt)

refund_has : (s : Sizes) (line n : ℕ) (mv : Move) → parse_refund s line n ≡ Ok mv → MoveHas mv
unfolding parse_refund
refund_has s line n = onward (parse_arc s line (codes "arc") n) _ MoveHas (λ arc a. landed (Refund arc) MoveHas tt)

transfer_has : (s : Sizes) (names : List (List ℕ)) (line n : ℕ) (name : List ℕ) (m : ℕ) (mv : Move) → parse_transfer s names line n name m ≡ Ok mv
    → MoveHas mv
unfolding parse_transfer
transfer_has s names line n name m =
    onward (party_of_name line names name) _ MoveHas (λ to a.
    onward (parse_arc s line (codes "arc") n) _ MoveHas (λ arc b.
    onward (ranged_number line (codes "units") 0 1000000000000 m) _ MoveHas (λ units c. landed (Transfer arc to units) MoveHas tt)))

wait_has : (s : Sizes) (line n m : ℕ) (mv : Move) → parse_wait s line n m ≡ Ok mv → MoveHas mv
unfolding parse_wait
wait_has s line n m =
    onward (parse_arc s line (codes "arc") n) _ MoveHas (λ arc a.
    onward (ranged_number line (codes "height") 0 1000000 m) _ MoveHas (λ height b. landed (Wait arc height) MoveHas tt))

move_has : (s : Sizes) (names : List (List ℕ)) (line : ℕ) (raw : RawMove) (mv : Move) → parse_move s names line raw ≡ Ok mv → MoveHas mv
move_has s names line (raws.Publish n t) mv e = publish_has s line n t mv e
move_has s names line (raws.Craft n k) mv e = craft_has s names line n k mv e
move_has s names line (raws.Replay n lock onto) mv e = replay_has s line n lock onto mv e
move_has s names line (raws.Raw n k) mv e = unlock_has s names line n k mv e
move_has s names line (raws.Claim n) mv e = claim_has s line n mv e
move_has s names line (raws.Refund n) mv e = refund_has s line n mv e
move_has s names line (raws.Transfer n to units) mv e = transfer_has s names line n to units mv e
move_has s names line (raws.Wait n height) mv e = wait_has s line n height mv e

-- ---- scripts

role_has : (s : Sizes) (names : List (List ℕ)) (line : ℕ) (actor : RawActor) (role : Role) → checked_role s names line actor ≡ Ok role → RoleHas role
unfolding script_role
role_has s names line Conforming = landed kinds.Conforming RoleHas tt
role_has s names line Manual = landed kinds.Manual RoleHas tt
role_has s names line (Script raws) =
    onward (check_range line (codes "script") 0 1000 (length raws)) _ RoleHas (λ u w.
    onward (collected_results (parse_move s names line) raws) _ RoleHas (λ moves e.
    landed (kinds.Script moves) RoleHas (each_all MoveHas (parse_move s names line) (move_has s names line) raws moves e)))
role_has s names line (Strategy name) = landed (kinds.Strategy name) RoleHas tt

abbrev ActingHas : Acting → Type 0
ActingHas a = RoleHas a.role

acting_has : (s : Sizes) (names : List (List ℕ)) (line : ℕ) (p : RawParty) (a : Acting) → parse_acting s names line p ≡ Ok a → ActingHas a
unfolding parse_acting
acting_has s names line p =
    onward (checked_role s names line p.actor) _ ActingHas (λ role r.
    onward (checked_seed line p) _ ActingHas (λ seed e. landed (record { role = role; seed = seed }) ActingHas (role_has s names line p.actor role r)))

actings_have : (v : Version) (s : Sizes) (names : List (List ℕ)) (line : ℕ) (ps : List RawParty) (acting : List Acting)
    → count_parties v s names line ps ≡ Ok acting → All ActingHas acting
unfolding count_parties
actings_have v s names line ps =
    onward (check_range line (codes "parties") 2 (most_parties v) (length ps)) _ (All ActingHas)
    (λ u w acting e. each_all ActingHas (parse_acting s names line) (acting_has s names line) ps acting e)

abbrev HeaderHas : Header → Type 0
HeaderHas h = All RoleHas h.roles

limited_has : (purpose : Purpose) (line : ℕ) (raw : RawHeader) (n : Numbered) (h : Header) → limited_value purpose line raw n ≡ Ok h → HeaderHas h
limited_has purpose line raw n h e =
    let o = opened line purpose raw n h e in
    subst (All RoleHas) (ap (λ (x : Header). x.roles) o.same)
    (All-map RoleHas (λ (a : Acting). a.role) o.acting
    (actings_have raw.version (header_sizes raw) n.names line raw.parties o.acting o.acting_are))

header_has : (has : List ℕ → Bool) (purpose : Purpose) (line : ℕ) (text : List ℕ) (h : Header) → parse_whole_header has purpose line text ≡ Ok h → HeaderHas h
unfolding parse_whole_header
header_has has purpose line text =
    onward (parse_data line text) _ HeaderHas (λ d o.
    onward (object_header purpose line d) _ HeaderHas (λ raw r.
    onward (numbered_header has line raw) _ HeaderHas (λ n m.
    onward (limited_value purpose line raw n) _ HeaderHas (λ h l.
    onward (scripts_placed line h) _ HeaderHas (λ u s. landed h HeaderHas (limited_has purpose line raw n h l))))))

abbrev pub JobHas : Job → Type 0
JobHas job = All RoleHas job.roles

accepted_has : (h : Header) (job : Job) → HeaderHas h → accepted_entries h ≡ Ok job → JobHas job
unfolding accepted_entries
accepted_has h job k =
    onward (admitted h) _ JobHas (λ g a.
    onward (provided (assemble_job h g)) _ JobHas (λ u p. landed (assemble_job h g) JobHas k)) job

pub header_job_has : (has : List ℕ → Bool) (purpose : Purpose) (line : ℕ) (text : List ℕ) (job : Job) → parse_header_job has purpose line text ≡ Ok job
    → JobHas job
unfolding parse_header_job
header_job_has has purpose line text =
    onward (parse_whole_header has purpose line text) _ JobHas (λ h e job a. accepted_has h job (header_has has purpose line text h e) a)

-- ---- events

tick_has : (job : Job) (line n : ℕ) (by : Option ℕ) (e : Event) → event_of_tick job.deal line n by ≡ Ok e → EventHas e
unfolding event_of_tick
tick_has job line n by =
    onward (parse_arc (deal_sizes job.deal) line (codes "tick") n) _ EventHas (λ arc a.
    onward (ranged_number line (codes "by") 1 1000000 _) _ EventHas (λ heights h. landed (Tick arc heights) EventHas tt))

look_has : (job : Job) (line : ℕ) (name : List ℕ) (n : ℕ) (e : Event) → event_of_look job line name n ≡ Ok e → EventHas e
unfolding event_of_look
look_has job line name n =
    onward (party_of_name line job.names name) _ EventHas (λ p a.
    onward (parse_arc (deal_sizes job.deal) line (codes "arc") n) _ EventHas (λ arc b.
    onward (adjacent job.deal.graph.arcs line p arc) _ EventHas (λ u c. landed (Look p arc) EventHas tt)))

act_has : (job : Job) (line : ℕ) (name : List ℕ) (e : Event) → event_of_act job line name ≡ Ok e → EventHas e
unfolding event_of_act
act_has job line name = onward (party_of_name line job.names name) _ EventHas (λ p a. landed (Act p) EventHas tt)

made_has : (job : Job) (line : ℕ) (name : List ℕ) (raw : RawMove) (e : Event) → event_of_call job line name raw ≡ Ok e → EventHas e
unfolding event_of_call
made_has job line name raw =
    onward (party_of_name line job.names name) _ EventHas (λ p a.
    onward (parse_move (deal_sizes job.deal) job.names line raw) _ EventHas (λ mv m.
    onward (deviating line _) _ EventHas (λ u c.
    onward (permitted job line p mv) _ EventHas (λ w e. landed (Made p mv) EventHas (move_has (deal_sizes job.deal) job.names line raw mv m)))))

crash_has : (job : Job) (line : ℕ) (name : List ℕ) (n m : ℕ) (e : Event) → event_of_crash job line name n m ≡ Ok e → EventHas e
unfolding event_of_crash
crash_has job line name n m =
    onward (party_of_name line job.names name) _ EventHas (λ p a.
    onward (ranged_number line (codes "after") 0 3 n) _ EventHas (λ k b.
    onward (ranged_number line (codes "image") 0 255 m) _ EventHas (λ image c. landed (Crash p k image) EventHas tt)))

checked_has : (job : Job) (line : ℕ) (raw : RawEvent) (e : Event) → checked_event job line raw ≡ Ok e → EventHas e
checked_has job line (raw_events.Tick n by) e k = tick_has job line n by e k
checked_has job line (raw_events.Look name n) e k = look_has job line name n e k
checked_has job line (raw_events.Act name) e k = act_has job line name e k
checked_has job line (raw_events.Call name raw) e k = made_has job line name raw e k
checked_has job line (raw_events.Crash name after image) e k = crash_has job line name after image e k

asked_has : (job : Job) (line : ℕ) (raw : RawEvent) (e : Event) → asked_event job line raw ≡ Ok e → EventHas e
unfolding asked_event
asked_has job line raw =
    onward (checked_event job line raw) _ EventHas (λ event c.
    onward (outside_race line job.purpose) _ EventHas (λ u o.
    onward (conforming_crash job.conforming line event) _ EventHas (λ w d. landed event EventHas (checked_has job line raw event c))))

event_has : (job : Job) (line : ℕ) (text : List ℕ) (e : Event) → parse_event job line text ≡ Ok e → EventHas e
unfolding parse_event
event_has job line text =
    onward (parse_data line text) _ EventHas (λ d o.
    onward (raw_event line d) _ EventHas (λ raw r e a. asked_has job line raw e a))

next_has : (job : Job) (count line : ℕ) (text : List ℕ) (e : Event) → limited_event job count line text ≡ Ok e → EventHas e
unfolding limited_event
next_has job count line text e k = by (count == 200000) k
  where
    by : (t : Bool) → cond t (Err (OverLimit line (codes "events") 200001)) (parse_event job line text) ≡ Ok e → EventHas e
    by true q = absurd (cc q)
    by false q = event_has job line text e q

pub events_have : (job : Job) (count : ℕ) (ls : List (ℕ × List ℕ)) (es : List Event) → parse_events job count ls ≡ Ok es → All EventHas es
unfolding parse_events
events_have job count [] = landed [] (All EventHas) (All-nil EventHas)
events_have job count (l ∷ ls) =
    onward (limited_event job count l.0 l.1) _ (All EventHas) (λ e n.
    onward (parse_events job (count + 1) ls) _ (All EventHas) (λ es r.
    landed (e ∷ es) (All EventHas) (All-cons EventHas e es (next_has job count l.0 l.1 e n) (events_have job (count + 1) ls es r))))
