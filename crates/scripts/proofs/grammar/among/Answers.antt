use Rattle.std.proofs.Common.{rules, tests, ap, ◌∙◌}
use Rattle.std.specs.Option.{option_map}
use Rattle.std.specs.Str.{bytes_eq}
use Rattle.std.proofs.lemmas.Iterator.{YieldsList-from_slice}
use Rattle.std.proofs.lemmas.Iterator.Search.{find_from_yields_List}
use Rattle.scripts.specs.Grammar.{entry_of}
use Rattle.scripts.proofs.Named.{entry_found}
use Rattle.scripts.proofs.grammar.among.Goals as goal

pub returns : goal.returns
returns c =
    let name = c.args.name.now in
    ap (option_map entry_of) (c.copied.ensures ∙ find_from_yields_List (λ r. bytes_eq name r.name.now) _ _ c.find.result c.find.ensures.ran (YieldsList-from_slice c.args.rules.now cc) (λ x b q k. search (rules, tests)))
    ∙ entry_found name c.args.rules.now
