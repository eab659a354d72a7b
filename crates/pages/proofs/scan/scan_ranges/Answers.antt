use Rattle.std.proofs.Common.{◌≡◌, true, subst, rules}
use Rattle.pages.specs.Pages.{accepted, span_bytes}
use Rattle.pages.proofs.FetchLaws.{fetched}
use Rattle.pages.proofs.scan.scan_ranges.Goals as goal

pub returns-clause-fewest : goal.returns-clause-fewest
returns-clause-fewest g c =
    let accepts = subst (λ ps. accepted ps ≡ true) c.in_ok-list.ensures.list c.in_ok-list.list.checked in
    fetched c.args.pages.now (g.S.RunSource.rows c.args.source) accepts span_bytes c.store.result c.args.place.now c.store.new.place (search rules)
