use Rattle.std.proofs.Common.{sym, subst, ◌∙◌}
use Rattle.std.specs.Str.{IsUtf8}
use Rattle.offer_text.proofs.words.party_label.Goals as goal

pub to_text-requires : goal.to_text-requires
to_text-requires c = subst IsUtf8 (sym (c.as_slice.ensures ∙ c.index-names-p.is)) (c.requires.texts c.args.p _ c.requires.party)
