use Rattle.std.proofs.Common.{◌≡◌, ◌++◌, ◌-◌, ◌+◌, length, List, ap, sym, subst, ◌∙◌, arith}
use Rattle.std.specs.List.{AllByRecursion}
use Rattle.ksi_world.specs.Histories.{world_of}
use Rattle.ksi_world.specs.Records.{issued_all, issued_among}
use Rattle.ksi_journal.specs.Journal.{IsIssued}
use Rattle.ksi_replay.proofs.Lawful.{listing_begins, listing_more}
use Rattle.ksi_replay.proofs.journal.issued.Goals as goal

pub numbers-init : goal.numbers-init
numbers-init g c =
    let image = g.C.Compress.image in
    let w = world_of image c.args.world.now in
    let count = ap (λ (xs : List _). length xs) c.requests.ensures in
    record {
      listing = subst (λ xs. xs ++ issued_among image w 0 (length c.requests.result.now - 0) ≡ issued_all image w) (sym c.new-issued.ensures.items)
          (listing_begins image w (length c.requests.result.now - 0) (omega (arith, count)));
      lawful = subst (AllByRecursion IsIssued) (sym c.new-issued.ensures.items) tt;
    }

pub numbers-preserved : goal.numbers-preserved
numbers-preserved g c =
    let image = g.C.Compress.image in
    let w = world_of image c.args.world.now in
    let n = c.numbers.number in
    let end = length c.requests.result.now in
    record {
      listing = ap (λ xs. xs ++ issued_among image w (n + 1) (end - (n + 1))) c.in_ok-push_issued.ensures.listing
          ∙ listing_more image w c.numbers.issued.items (issued_all image w) n end c.in_ok-found.found c.numbers-test.true c.in_ok-found.ensures.exact c.numbers.invariant.listing;
      lawful = c.in_ok-push_issued.ensures.lawful;
    }
