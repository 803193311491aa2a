-- What a move holds.
use Rattle.std.proofs.Common.{Bool, List, None, Option, Some, codes, true, ℕ, ◌&&◌}
use Rattle.std.specs.Str.{bytes_eq}
use Rattle.serde_json.specs.Data.{Data, Items}
use Rattle.serde_json.specs.Find.{get, as_array}
use Rattle.command_input.specs.declared.reason.Reason.TheVariants.{WrongKind}
use Rattle.offer_moves.specs.Fields.{kind, field_number, field_text, optional_field_number, required_object, only, text_member}
use Rattle.offer_moves.specs.declared.raw.MoveKind.{MoveKind}
use Rattle.offer_moves.specs.Reading.{list_texts, optional_texts, optional_field_texts, field_texts, wait_move_kind, word_move_kind, move_kind, raw_publish_terms, publish_fields}
use Rattle.offer_moves.specs.Reading.{raw_publish_move}
use Rattle.offer_moves.specs.Reading.{raw_crafting, craft_fields, raw_craft_move, replay_fields, raw_replay_move, raw_hashkey, raw_fields, raw_unlock_move, plain_fields, raw_claim_move}
use Rattle.offer_moves.specs.Reading.{raw_refund_move, transfer_fields, raw_transfer_move, wait_fields, raw_wait_move, raw_move_of_kind, stated_raw_move, script_move}
use Rattle.offer_moves.specs.declared.raw.MoveKind.TheVariants as kinds
use Rattle.program_laws.proofs.Bare.{Bare, onward, landed, refused, choose}
use Rattle.program_laws.proofs.Fields.{kind_bare, number_at_bare, text_at_bare, optional_number_at_bare, only_bare, object_at_bare, member_text_of_bare}
use Rattle.program_laws.proofs.Fields.{each_bare, list_at_bare}

pub texts_of_bare : (line : ℕ) (field : List ℕ) (items : Option Items) → Bare (list_texts line field items)
unfolding list_texts
texts_of_bare line field items =
    onward (kind line field items)
    _ (kind_bare line field items) (λ members. each_bare (text_member line field) (member_text_of_bare line field) members)

pub optional_texts_bare : (line : ℕ) (field : List ℕ) (x2 : Option Data) → Bare (optional_texts line field x2)
optional_texts_bare line field None = landed _
optional_texts_bare line field (Some d) = onward (list_texts line field (as_array d)) _ (texts_of_bare line field (as_array d)) (λ texts. landed _)

pub optional_texts_at_bare : (line : ℕ) (field : List ℕ) (d : Data) → Bare (optional_field_texts line field d)
unfolding optional_field_texts
optional_texts_at_bare line field d = optional_texts_bare line field (get field d)

pub texts_at_bare : (line : ℕ) (field : List ℕ) (d : Data) → Bare (field_texts line field d)
unfolding field_texts
texts_at_bare line field d = list_at_bare line field (text_member line field) (member_text_of_bare line field) d

pub wait_of_bare : (line : ℕ) (scripted : Bool) (word : List ℕ) → Bare (wait_move_kind line scripted word)
wait_of_bare line scripted word = choose (scripted && bytes_eq word (codes "wait")) _ _ (landed _) (refused (WrongKind line (codes "do")) tt)

pub kind_of_bare : (line : ℕ) (scripted : Bool) (word : List ℕ) → Bare (word_move_kind line scripted word)
kind_of_bare line scripted word =
    choose (bytes_eq word (codes "publish")) _ _ (landed _)
    (choose (bytes_eq word (codes "raw")) _ _ (landed _)
    (choose (bytes_eq word (codes "claim")) _ _ (landed _)
    (choose (bytes_eq word (codes "refund")) _ _ (landed _)
    (choose (bytes_eq word (codes "transfer")) _ _ (landed _)
    (choose (bytes_eq word (codes "craft")) _ _ (landed _)
    (choose (bytes_eq word (codes "replay")) _ _ (landed _) (wait_of_bare line scripted word)))))))

pub kind_at_bare : (line : ℕ) (scripted : Bool) (d : Data) → Bare (move_kind line scripted d)
unfolding move_kind
kind_at_bare line scripted d = onward (field_text line (codes "do") d) _ (text_at_bare line (codes "do") d) (λ word. kind_of_bare line scripted word)

pub terms_at_bare : (line : ℕ) (d : Data) → Bare (raw_publish_terms line d)
unfolding raw_publish_terms
terms_at_bare line d =
    onward (optional_field_number line (codes "start") d) _ (optional_number_at_bare line (codes "start") d)
    (λ start. onward (optional_field_number line (codes "delta") d) _ (optional_number_at_bare line (codes "delta") d)
    (λ delta. onward (optional_field_number line (codes "bound") d) _ (optional_number_at_bare line (codes "bound") d)
    (λ bound. onward (optional_field_number line (codes "timelock") d) _ (optional_number_at_bare line (codes "timelock") d)
    (λ timelock. onward (optional_field_number line (codes "amount") d) _ (optional_number_at_bare line (codes "amount") d)
    (λ amount. onward (optional_field_texts line (codes "locks") d) _ (optional_texts_at_bare line (codes "locks") d) (λ locks. landed _))))))

pub publish_at_bare : (line : ℕ) (arc : ℕ) (d : Data) → Bare (raw_publish_move line arc d)
unfolding raw_publish_move
publish_at_bare line arc d =
    onward (raw_publish_terms line d) _ (terms_at_bare line d)
    (λ terms. onward (only line publish_fields d) _ (only_bare line publish_fields d) (λ u. landed _))

pub crafting_at_bare : (line : ℕ) (d : Data) → Bare (raw_crafting line d)
unfolding raw_crafting
crafting_at_bare line d =
    onward (field_number line (codes "lock") d) _ (number_at_bare line (codes "lock") d)
    (λ lock. onward (field_texts line (codes "via") d) _ (texts_at_bare line (codes "via") d)
    (λ via. onward (optional_field_number line (codes "onto") d) _ (optional_number_at_bare line (codes "onto") d) (λ onto. landed _)))

pub craft_at_bare : (line : ℕ) (arc : ℕ) (d : Data) → Bare (raw_craft_move line arc d)
unfolding raw_craft_move
craft_at_bare line arc d =
    onward (raw_crafting line d) _ (crafting_at_bare line d)
    (λ craft. onward (only line craft_fields d) _ (only_bare line craft_fields d) (λ u. landed _))

pub replay_at_bare : (line : ℕ) (arc : ℕ) (d : Data) → Bare (raw_replay_move line arc d)
unfolding raw_replay_move
replay_at_bare line arc d =
    onward (field_number line (codes "lock") d) _ (number_at_bare line (codes "lock") d)
    (λ lock. onward (field_number line (codes "onto") d) _ (number_at_bare line (codes "onto") d)
    (λ onto. onward (only line replay_fields d) _ (only_bare line replay_fields d) (λ u. landed _)))

pub key_at_bare : (line : ℕ) (d : Data) → Bare (raw_hashkey line d)
unfolding raw_hashkey
key_at_bare line d =
    onward (field_number line (codes "lock") d) _ (number_at_bare line (codes "lock") d)
    (λ lock. onward (field_text line (codes "secret") d) _ (text_at_bare line (codes "secret") d)
    (λ secret. onward (field_texts line (codes "path") d) _ (texts_at_bare line (codes "path") d)
    (λ path. onward (field_texts line (codes "sigs") d) _ (texts_at_bare line (codes "sigs") d) (λ sigs. landed _))))

pub raw_at_bare : (line : ℕ) (arc : ℕ) (d : Data) → Bare (raw_unlock_move line arc d)
unfolding raw_unlock_move
raw_at_bare line arc d =
    onward (raw_hashkey line d) _ (key_at_bare line d)
    (λ key. onward (only line raw_fields d) _ (only_bare line raw_fields d) (λ u. landed _))

pub claim_at_bare : (line : ℕ) (arc : ℕ) (d : Data) → Bare (raw_claim_move line arc d)
unfolding raw_claim_move
claim_at_bare line arc d = onward (only line plain_fields d) _ (only_bare line plain_fields d) (λ u. landed _)

pub refund_at_bare : (line : ℕ) (arc : ℕ) (d : Data) → Bare (raw_refund_move line arc d)
unfolding raw_refund_move
refund_at_bare line arc d = onward (only line plain_fields d) _ (only_bare line plain_fields d) (λ u. landed _)

pub transfer_at_bare : (line : ℕ) (arc : ℕ) (d : Data) → Bare (raw_transfer_move line arc d)
unfolding raw_transfer_move
transfer_at_bare line arc d =
    onward (field_text line (codes "to") d) _ (text_at_bare line (codes "to") d)
    (λ to. onward (field_number line (codes "units") d) _ (number_at_bare line (codes "units") d)
    (λ units. onward (only line transfer_fields d) _ (only_bare line transfer_fields d) (λ u. landed _)))

pub wait_at_bare : (line : ℕ) (arc : ℕ) (d : Data) → Bare (raw_wait_move line arc d)
unfolding raw_wait_move
wait_at_bare line arc d =
    onward (field_number line (codes "height") d) _ (number_at_bare line (codes "height") d)
    (λ height. onward (only line wait_fields d) _ (only_bare line wait_fields d) (λ u. landed _))

pub rest_at_bare : (line : ℕ) (x1 : MoveKind) (arc : ℕ) (d : Data) → Bare (raw_move_of_kind line x1 arc d)
rest_at_bare line kinds.Publish arc d = publish_at_bare line arc d
rest_at_bare line kinds.Craft arc d = craft_at_bare line arc d
rest_at_bare line kinds.Replay arc d = replay_at_bare line arc d
rest_at_bare line kinds.Raw arc d = raw_at_bare line arc d
rest_at_bare line kinds.Claim arc d = claim_at_bare line arc d
rest_at_bare line kinds.Refund arc d = refund_at_bare line arc d
rest_at_bare line kinds.Transfer arc d = transfer_at_bare line arc d
rest_at_bare line kinds.Wait arc d = wait_at_bare line arc d

pub move_at_bare : (line : ℕ) (scripted : Bool) (d : Data) → Bare (stated_raw_move line scripted d)
unfolding stated_raw_move
move_at_bare line scripted d =
    onward (move_kind line scripted d) _ (kind_at_bare line scripted d)
    (λ kind. onward (field_number line (codes "arc") d) _ (number_at_bare line (codes "arc") d) (λ arc. rest_at_bare line kind arc d))

pub scripted_at_bare : (line : ℕ) (d : Data) → Bare (script_move line d)
unfolding script_move
scripted_at_bare line d = onward (required_object line (codes "script") d) _ (object_at_bare line (codes "script") d) (λ o. move_at_bare line true d)
