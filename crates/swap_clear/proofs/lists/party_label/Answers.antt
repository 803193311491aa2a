use Rattle.std.proofs.Common.{sym, subst}
use Rattle.std.specs.Str.{IsUtf8}
use Rattle.swap_clear.proofs.Texts.{text_at}
use Rattle.swap_clear.proofs.lists.party_label.Goals as goal

pub to_text-requires : goal.to_text-requires
to_text-requires c = subst IsUtf8 (sym c.party_name.ensures) (text_at c.args.names.now c.args.p c.requires)
