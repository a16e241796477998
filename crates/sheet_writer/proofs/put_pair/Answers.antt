use mathlib.Core.Path.{◌≡◌, ap, ◌∙◌}
use lib.IntN.{pos}
use lib.ListN.{get_or}
use mir.Facts.{to_z-of_z}
use mir.Syntax.{w32}
use borrow.Author.Rules.{rules}
use Rattle.model_sheet.specs.Numbers.{word_pattern}
use Rattle.sheet_writer.proofs.LayLaws.{pair_put}
use Rattle.sheet_writer.proofs.put_pair.Goals as goal

pub returns : goal.returns
returns c =
    let low : c.word_pattern_of.result ≡ word_pattern (get_or c.args.b.lowest c.args.d (pos 0)) =
    c.word_pattern_of.ensures ∙ ap word_pattern (to_z-of_z {w = w32} {z = get_or c.args.b.lowest c.args.d (pos 0)} (record { sfits = search rules })) in
    let high : c.word_pattern_of-2.result ≡ word_pattern (get_or c.args.b.highest c.args.d (pos 0)) =
    c.word_pattern_of-2.ensures ∙ ap word_pattern (to_z-of_z {w = w32} {z = get_or c.args.b.highest c.args.d (pos 0)} (record { sfits = search rules })) in
    rw (c.put_word.ensures, c.put_word-y.ensures, low, high) (pair_put c.args.b c.args.d c.args.x c.args.at)
