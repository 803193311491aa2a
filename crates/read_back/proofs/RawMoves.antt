-- What is written of a script's move says just that move.
use Rattle.std.proofs.Common.{◌≡◌, ℕ, true, List, [], ◌∷◌, map, Option, Some, None, option_and_then, option_map, Ok, refl, ap, ◌∙◌}
use Rattle.std.specs.Prelude.{codes, slice_index_or}
use Rattle.hex.specs.Hex.{encode_lower}
use Rattle.serde_json.specs.Data.{Data, string, object, Members, no_members, member}
use Rattle.serde_json.specs.Find.{as_number, as_str, as_u64}
use Rattle.serde_json.specs.View.{items_of}
use Rattle.swap_base.specs.Fault.{◌>>=◌}
use Rattle.swap_base.specs.Lists.{or_else}
use Rattle.swap_base.specs.Text.{joined}
use Rattle.hash_signature.specs.declared.sig.Sig.{Sig}
use Rattle.hashkey_path.specs.declared.hashkey.Hashkey.{Hashkey}
use Rattle.swap_job.specs.declared.moves.Move.{Move}
use Rattle.swap_job.specs.declared.moves.Move.TheVariants.{Publish, Craft, Replay, Raw, Claim, Refund, Transfer, Wait}
use Rattle.offer_moves.specs.Fields.{read_array_field, each, kind, field_list, text_member, needed, no_unknown, field_number, required_object, only, present}
use Rattle.offer_moves.specs.Fields.{optional_number, optional_field_number, field_text}
use Rattle.offer_moves.specs.Reading.{raw_claim_move, raw_craft_move, craft_fields, raw_crafting, raw_hashkey, move_kind, word_move_kind, stated_raw_move, optional_texts, optional_field_texts}
use Rattle.offer_moves.specs.Reading.{raw_publish_move, publish_fields, raw_unlock_move, raw_fields, raw_refund_move, raw_replay_move, raw_move_of_kind, script_move, raw_publish_terms, field_texts}
use Rattle.offer_moves.specs.Reading.{list_texts}
use Rattle.offer_moves.specs.Reading.{raw_transfer_move, raw_wait_move}
use Rattle.offer_moves.specs.declared.raw.MoveKind.{MoveKind}
use Rattle.offer_moves.specs.declared.raw.MoveKind.TheVariants as kinds
use Rattle.offer_moves.specs.declared.raw.RawCraft.{RawCraft}
use Rattle.offer_moves.specs.declared.raw.RawKey.{RawKey}
use Rattle.offer_moves.specs.declared.raw.RawMove.{RawMove}
use Rattle.offer_moves.specs.declared.raw.RawMove.TheVariants as raws
use Rattle.offer_moves.specs.declared.raw.RawTerms.{RawTerms}
use Rattle.offer_text.specs.Moves.{move_data}
use Rattle.offer_text.specs.Words.{digest_data, list_data, number_data}
use Rattle.read_back.proofs.Steps.{items_back, step}
use Rattle.read_back.proofs.Members.{all_found, all_known, also, with_fields}

-- the name of party p
abbrev pub party_label : List (List ℕ) → ℕ → List ℕ
party_label names p = slice_index_or names p []

-- the digits of a signature
abbrev pub digits_of : Sig → List ℕ
digits_of sig = encode_lower (joined sig)

abbrev pub raw_key : List (List ℕ) → Hashkey → RawKey
raw_key names key = record {
  lock = key.lock;
  secret = encode_lower key.secret;
  path = map (party_label names) key.path;
  sigs = map digits_of key.sigs;
}

abbrev pub raw_craft : List (List ℕ) → ℕ → List ℕ → Option ℕ → RawCraft
raw_craft names lock via onto = record { lock = lock; via = map (party_label names) via; onto = onto }

abbrev pub raw_terms : (start delta bound timelock amount : Option ℕ) → Option (List (List ℕ)) → RawTerms
raw_terms start delta bound timelock amount locks = record {
  start = start;
  delta = delta;
  bound = bound;
  timelock = timelock;
  amount = amount;
  locks = option_map (map encode_lower) locks;
}

-- a move with the names that stand for its numbers
abbrev pub raw_move : List (List ℕ) → Move → RawMove
raw_move names (Publish arc start delta bound timelock amount locks) = raws.Publish arc (raw_terms start delta bound timelock amount locks)
raw_move names (Craft arc lock via onto) = raws.Craft arc (raw_craft names lock via onto)
raw_move names (Replay arc lock onto) = raws.Replay arc lock onto
raw_move names (Raw arc key) = raws.Raw arc (raw_key names key)
raw_move names (Claim arc) = raws.Claim arc
raw_move names (Refund arc) = raws.Refund arc
raw_move names (Transfer arc to units) = raws.Transfer arc (party_label names to) units
raw_move names (Wait arc height) = raws.Wait arc height

-- ---- a move by its parts

scripted : (line : ℕ) (d : Data) (k : MoveKind) (arc : ℕ) (raw : RawMove) → required_object line (codes "script") d ≡ Ok tt → move_kind line true d ≡ Ok k
    → field_number line (codes "arc") d ≡ Ok arc → raw_move_of_kind line k arc d ≡ Ok raw → script_move line d ≡ Ok raw
unfolding script_move stated_raw_move
scripted line d k arc raw o e a r = step _ tt _ o ∙ step _ k _ e ∙ step _ arc _ a ∙ r

-- texts in a list
texts_back : {C : Type 0} (line : ℕ) (field : List ℕ) (g : C → List ℕ) (xs : List C)
    → each (text_member line field) (items_of (map (λ x. string (g x)) xs)) ≡ Ok (map g xs)
unfolding text_member
texts_back line field g xs = items_back (text_member line field) (λ x. string (g x)) g xs (λ x i. refl)

-- ---- the simple ones

replay_back : (line : ℕ) (names : List (List ℕ)) (arc lock onto : ℕ)
    → script_move line (move_data names (Replay arc lock onto)) ≡ Ok (raws.Replay arc lock onto)
unfolding move_data required_object move_kind field_text needed field_number raw_replay_move only
replay_back line names arc lock onto = scripted line _ kinds.Replay arc (raws.Replay arc lock onto) refl refl refl refl

claim_back : (line : ℕ) (names : List (List ℕ)) (arc : ℕ) → script_move line (move_data names (Claim arc)) ≡ Ok (raws.Claim arc)
unfolding move_data required_object move_kind field_text needed field_number raw_claim_move only
claim_back line names arc = scripted line _ kinds.Claim arc (raws.Claim arc) refl refl refl refl

refund_back : (line : ℕ) (names : List (List ℕ)) (arc : ℕ) → script_move line (move_data names (Refund arc)) ≡ Ok (raws.Refund arc)
unfolding move_data required_object move_kind field_text needed field_number raw_refund_move only
refund_back line names arc = scripted line _ kinds.Refund arc (raws.Refund arc) refl refl refl refl

transfer_back : (line : ℕ) (names : List (List ℕ)) (arc to units : ℕ)
    → script_move line (move_data names (Transfer arc to units)) ≡ Ok (raws.Transfer arc (party_label names to) units)
unfolding move_data required_object move_kind field_text needed field_number raw_transfer_move only
transfer_back line names arc to units = scripted line _ kinds.Transfer arc (raws.Transfer arc (party_label names to) units) refl refl refl refl

wait_back : (line : ℕ) (names : List (List ℕ)) (arc height : ℕ) → script_move line (move_data names (Wait arc height)) ≡ Ok (raws.Wait arc height)
unfolding move_data required_object move_kind field_text needed field_number raw_wait_move only
wait_back line names arc height = scripted line _ kinds.Wait arc (raws.Wait arc height) refl refl refl refl

-- ---- a craft

abbrev craft_data : List (List ℕ) → ℕ → ℕ → List ℕ → Option ℕ → Data
craft_data names arc lock via onto = move_data names (Craft arc lock via onto)

via_is : (line : ℕ) (names : List (List ℕ)) (arc lock : ℕ) (via : List ℕ) (onto : Option ℕ)
    → field_texts line (codes "via") (craft_data names arc lock via onto) ≡ Ok (map (party_label names) via)
unfolding move_data field_texts field_list read_array_field needed
via_is line names arc lock via None = texts_back line (codes "via") (party_label names) via
via_is line names arc lock via (Some n) = texts_back line (codes "via") (party_label names) via

craft_lock_is : (line : ℕ) (names : List (List ℕ)) (arc lock : ℕ) (via : List ℕ) (onto : Option ℕ)
    → field_number line (codes "lock") (craft_data names arc lock via onto) ≡ Ok lock
unfolding move_data field_number needed
craft_lock_is line names arc lock via None = refl
craft_lock_is line names arc lock via (Some n) = refl

craft_onto_is : (line : ℕ) (names : List (List ℕ)) (arc lock : ℕ) (via : List ℕ) (onto : Option ℕ)
    → optional_field_number line (codes "onto") (craft_data names arc lock via onto) ≡ Ok onto
unfolding move_data optional_field_number
craft_onto_is line names arc lock via None = refl
craft_onto_is line names arc lock via (Some n) = refl

craft_only : (line : ℕ) (names : List (List ℕ)) (arc lock : ℕ) (via : List ℕ) (onto : Option ℕ)
    → only line craft_fields (craft_data names arc lock via onto) ≡ Ok tt
unfolding move_data only
craft_only line names arc lock via None = refl
craft_only line names arc lock via (Some n) = refl

crafting_back : (line : ℕ) (names : List (List ℕ)) (arc lock : ℕ) (via : List ℕ) (onto : Option ℕ)
    → raw_crafting line (craft_data names arc lock via onto) ≡ Ok (raw_craft names lock via onto)
unfolding raw_crafting
crafting_back line names arc lock via onto =
    step _ lock _ (craft_lock_is line names arc lock via onto)
    ∙ step _ (map (party_label names) via) _ (via_is line names arc lock via onto)
    ∙ step _ onto _ (craft_onto_is line names arc lock via onto)

craft_rest : (line : ℕ) (names : List (List ℕ)) (arc lock : ℕ) (via : List ℕ) (onto : Option ℕ)
    → raw_craft_move line arc (craft_data names arc lock via onto) ≡ Ok (raws.Craft arc (raw_craft names lock via onto))
unfolding raw_craft_move
craft_rest line names arc lock via onto =
    step _ (raw_craft names lock via onto) _ (crafting_back line names arc lock via onto) ∙ step _ tt _ (craft_only line names arc lock via onto)

craft_back : (line : ℕ) (names : List (List ℕ)) (arc lock : ℕ) (via : List ℕ) (onto : Option ℕ)
    → script_move line (craft_data names arc lock via onto) ≡ Ok (raws.Craft arc (raw_craft names lock via onto))
unfolding move_data required_object move_kind field_text needed field_number
craft_back line names arc lock via None =
    scripted line _ kinds.Craft arc (raws.Craft arc (raw_craft names lock via None)) refl refl refl (craft_rest line names arc lock via None)
craft_back line names arc lock via (Some n) =
    scripted line _ kinds.Craft arc (raws.Craft arc (raw_craft names lock via (Some n))) refl refl refl (craft_rest line names arc lock via (Some n))

-- ---- a hashkey as it is

abbrev raw_data : List (List ℕ) → ℕ → Hashkey → Data
raw_data names arc key = move_data names (Raw arc key)

path_is : (line : ℕ) (names : List (List ℕ)) (arc : ℕ) (key : Hashkey)
    → field_texts line (codes "path") (raw_data names arc key) ≡ Ok (map (party_label names) key.path)
unfolding move_data field_texts field_list read_array_field needed
path_is line names arc key = texts_back line (codes "path") (party_label names) key.path

sigs_are : (line : ℕ) (names : List (List ℕ)) (arc : ℕ) (key : Hashkey)
    → field_texts line (codes "sigs") (raw_data names arc key) ≡ Ok (map digits_of key.sigs)
unfolding move_data field_texts field_list read_array_field needed
sigs_are line names arc key = texts_back line (codes "sigs") digits_of key.sigs

key_lock_is : (line : ℕ) (names : List (List ℕ)) (arc : ℕ) (key : Hashkey) → field_number line (codes "lock") (raw_data names arc key) ≡ Ok key.lock
unfolding move_data field_number needed
key_lock_is line names arc key = refl

secret_is : (line : ℕ) (names : List (List ℕ)) (arc : ℕ) (key : Hashkey)
    → field_text line (codes "secret") (raw_data names arc key) ≡ Ok (encode_lower key.secret)
unfolding move_data field_text needed
secret_is line names arc key = refl

key_back : (line : ℕ) (names : List (List ℕ)) (arc : ℕ) (key : Hashkey) → raw_hashkey line (raw_data names arc key) ≡ Ok (raw_key names key)
unfolding raw_hashkey
key_back line names arc key =
    step _ key.lock _ (key_lock_is line names arc key)
    ∙ step _ (encode_lower key.secret) _ (secret_is line names arc key)
    ∙ step _ (map (party_label names) key.path) _ (path_is line names arc key)
    ∙ step _ (map digits_of key.sigs) _ (sigs_are line names arc key)

raw_only : (line : ℕ) (names : List (List ℕ)) (arc : ℕ) (key : Hashkey) → only line raw_fields (raw_data names arc key) ≡ Ok tt
unfolding move_data only
raw_only line names arc key = refl

raw_rest : (line : ℕ) (names : List (List ℕ)) (arc : ℕ) (key : Hashkey) → raw_unlock_move line arc (raw_data names arc key) ≡ Ok (raws.Raw arc (raw_key names key))
unfolding raw_unlock_move
raw_rest line names arc key = step _ (raw_key names key) _ (key_back line names arc key) ∙ step _ tt _ (raw_only line names arc key)

raw_back : (line : ℕ) (names : List (List ℕ)) (arc : ℕ) (key : Hashkey)
    → script_move line (raw_data names arc key) ≡ Ok (raws.Raw arc (raw_key names key))
unfolding move_data required_object move_kind field_text needed field_number
raw_back line names arc key = scripted line _ kinds.Raw arc (raws.Raw arc (raw_key names key)) refl refl refl (raw_rest line names arc key)

-- ---- a publish, whose terms may be absent

abbrev pub publish_members : ℕ → (start delta bound timelock amount : Option ℕ) → Option (List (List ℕ)) → List (List ℕ × Option Data)
publish_members arc start delta bound timelock amount locks =
    (codes "amount", option_map number_data amount)
    ∷ (codes "arc", Some (number_data arc))
    ∷ (codes "bound", option_map number_data bound)
    ∷ (codes "delta", option_map number_data delta)
    ∷ (codes "do", Some (string (codes "publish")))
    ∷ (codes "locks", option_map (list_data digest_data) locks)
    ∷ (codes "start", option_map number_data start)
    ∷ (codes "timelock", option_map number_data timelock)
    ∷ []

number_there : (line : ℕ) (field : List ℕ) (o : Option ℕ) → optional_number line field (or_else (option_map number_data o) None) ≡ Ok o
number_there line field None = refl
number_there line field (Some n) = refl

locks_there : (line : ℕ) (field : List ℕ) (o : Option (List (List ℕ)))
    → optional_texts line field (or_else (option_map (list_data digest_data) o) None) ≡ Ok (option_map (map encode_lower) o)
unfolding list_texts
locks_there line field None = refl
locks_there line field (Some ds) = step _ (map encode_lower ds) _ (texts_back line field encode_lower ds)

module _ (line arc : ℕ) (start delta bound timelock amount : Option ℕ) (locks : Option (List (List ℕ))) where
  abbrev fields : List (List ℕ × Option Data)
  fields = publish_members arc start delta bound timelock amount locks

  abbrev stated : Data
  stated = object (with_fields fields)

  abbrev terms : RawTerms
  terms = raw_terms start delta bound timelock amount locks

  start_is : optional_field_number line (codes "start") stated ≡ Ok start
  unfolding optional_field_number
  start_is = ap (optional_number line (codes "start")) (all_found (codes "start") fields) ∙ number_there line (codes "start") start

  delta_is : optional_field_number line (codes "delta") stated ≡ Ok delta
  unfolding optional_field_number
  delta_is = ap (optional_number line (codes "delta")) (all_found (codes "delta") fields) ∙ number_there line (codes "delta") delta

  bound_is : optional_field_number line (codes "bound") stated ≡ Ok bound
  unfolding optional_field_number
  bound_is = ap (optional_number line (codes "bound")) (all_found (codes "bound") fields) ∙ number_there line (codes "bound") bound

  timelock_is : optional_field_number line (codes "timelock") stated ≡ Ok timelock
  unfolding optional_field_number
  timelock_is = ap (optional_number line (codes "timelock")) (all_found (codes "timelock") fields) ∙ number_there line (codes "timelock") timelock

  amount_is : optional_field_number line (codes "amount") stated ≡ Ok amount
  unfolding optional_field_number
  amount_is = ap (optional_number line (codes "amount")) (all_found (codes "amount") fields) ∙ number_there line (codes "amount") amount

  locks_are : optional_field_texts line (codes "locks") stated ≡ Ok (option_map (map encode_lower) locks)
  unfolding optional_field_texts
  locks_are = ap (optional_texts line (codes "locks")) (all_found (codes "locks") fields) ∙ locks_there line (codes "locks") locks

  terms_back : raw_publish_terms line stated ≡ Ok terms
  unfolding raw_publish_terms
  terms_back =
      step _ start _ start_is
      ∙ step _ delta _ delta_is
      ∙ step _ bound _ bound_is
      ∙ step _ timelock _ timelock_is
      ∙ step _ amount _ amount_is
      ∙ step _ (option_map (map encode_lower) locks) _ locks_are

  publish_only : only line publish_fields stated ≡ Ok tt
  unfolding only
  publish_only = ap (no_unknown line) (all_known publish_fields fields refl)

  publish_rest : raw_publish_move line arc stated ≡ Ok (raws.Publish arc terms)
  unfolding raw_publish_move
  publish_rest = step _ terms _ terms_back ∙ step _ tt _ publish_only

  publish_kind : move_kind line true stated ≡ Ok kinds.Publish
  unfolding move_kind field_text needed
  publish_kind =
      ap (λ (o : Option Data). (present line (codes "do") o >>= λ value. kind line (codes "do") (as_str value)) >>= word_move_kind line true)
      (all_found (codes "do") fields)

  publish_arc : field_number line (codes "arc") stated ≡ Ok arc
  unfolding field_number needed
  publish_arc =
      ap (λ (o : Option Data). present line (codes "arc") o >>= λ value. kind line (codes "arc") (option_and_then as_u64 (as_number value)))
      (all_found (codes "arc") fields)

  script_object : required_object line (codes "script") stated ≡ Ok tt
  unfolding required_object
  script_object = refl

  stated_back : script_move line stated ≡ Ok (raws.Publish arc terms)
  stated_back = scripted line stated kinds.Publish arc (raws.Publish arc terms) script_object publish_kind publish_arc publish_rest

  pub publish_is : (names : List (List ℕ)) → move_data names (Publish arc start delta bound timelock amount locks) ≡ stated
  unfolding move_data
  publish_is names =
      ap object (also (codes "amount") number_data amount _ _ (ap (λ (ms : Members). member (codes "arc") (number_data arc) ms)
      (also (codes "bound") number_data bound _ _ (also (codes "delta") number_data delta _ _
      (ap (λ (ms : Members). member (codes "do") (string (codes "publish")) ms)
      (also (codes "locks") (list_data digest_data) locks _ _ (also (codes "start") number_data start _ _
      (also (codes "timelock") number_data timelock no_members no_members refl))))))))

  publish_back : (names : List (List ℕ))
      → script_move line (move_data names (Publish arc start delta bound timelock amount locks)) ≡ Ok (raws.Publish arc terms)
  publish_back names = ap (script_move line) (publish_is names) ∙ stated_back

-- ---- any move

pub move_back : (line : ℕ) (names : List (List ℕ)) (mv : Move) → script_move line (move_data names mv) ≡ Ok (raw_move names mv)
move_back line names (Publish arc start delta bound timelock amount locks) = publish_back line arc start delta bound timelock amount locks names
move_back line names (Craft arc lock via onto) = craft_back line names arc lock via onto
move_back line names (Replay arc lock onto) = replay_back line names arc lock onto
move_back line names (Raw arc key) = raw_back line names arc key
move_back line names (Claim arc) = claim_back line names arc
move_back line names (Refund arc) = refund_back line names arc
move_back line names (Transfer arc to units) = transfer_back line names arc to units
move_back line names (Wait arc height) = wait_back line names arc height
