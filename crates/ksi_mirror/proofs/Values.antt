-- What single elements say is what a mirror keeps.
use Rattle.std.proofs.Common.{◌≡◌, ℕ, ◌^◌, ◌<◌, ◌≤◌, Bool, true, false, cond, leb, eqb, List, Ok, refl, subst, arith}
use Rattle.std.proofs.lemmas.Bool.{leb-true, eqb-true, eqb-false}
use Rattle.ksi_tlv.specs.Walking.{PlacedTlv}
use Rattle.ksi_tlv.specs.declared.order.fault.OrderFault.{OrderFault}
use Rattle.ksi_tlv.specs.declared.order.fault.OrderFault.TheVariants as orders
use Rattle.ksi_tlv.specs.Fields.{inside, field, done}
use Rattle.ksi_tlv.specs.Values.{number_at, time_at, imprint_at}
use Rattle.ksi_tlv.proofs.Steps.{Bounded, each_of, ok_is, test_ok}
use Rattle.ksi_journal.specs.Elements.{rises}
use Rattle.ksi_journal.proofs.Rising.{rises_ok}
use Rattle.ksi_mirror.specs.Mirrors.{rank_at, IsRoot}
use Rattle.ksi_mirror.specs.Elements.{root_said, core_at, core_from, list_said}

pub record IsSaid (least_list least_core : ℕ) (said : ℕ × ℕ × ℕ) : Type 0 where
  pub rises : rank_at least_list least_core ≤ rank_at said.0 said.1
  pub early : said.0 < 2 ^ 63
  pub core : said.1 ≤ 8

-- a second and a core that rise stand behind
rank_rises : (least_list least_core t core : ℕ) → least_core ≤ 9 → least_list ≤ t → core_from least_list least_core t ≤ core → rank_at least_list least_core ≤ rank_at t core
rank_rises least_list least_core t core few le up = by (eqb t least_list) refl up
  where
    by : (here : Bool) → eqb t least_list ≡ here → cond here least_core 0 ≤ core → rank_at least_list least_core ≤ rank_at t core
    by true is up = let e = eqb-true t least_list is in omega (arith, e, up)
    by false is up = let ne = eqb-false t least_list is in omega (arith, ne, le, few)

module _ (bounded : Bounded) where
  pub root_ok : (least : ℕ) (at : PlacedTlv) (one : ℕ × List ℕ) → root_said least at ≡ Ok one → (least ≤ one.0) × IsRoot one
  unfolding root_said
  root_ok least at said e =
      each_of (field 1 (inside at)) e (λ one is_one e.
      each_of (time_at one.0) e (λ t is_time e.
      each_of (rises least t one.0.place) e (λ up is_up e.
      each_of (field 2 one.1) e (λ two is_two e.
      each_of (imprint_at two.0) e (λ root is_root e.
      each_of (done two.1) e (λ end is_end e.
      subst (λ (p : ℕ × List ℕ). (least ≤ p.0) × IsRoot p) (ok_is {F = OrderFault} (t, root) said e)
      (rises_ok least t one.0.place up is_up, record { early = bounded.early one.0 t is_time; imprint = bounded.imprint two.0 root is_root })))))))

  pub list_ok : (least_list least_core : ℕ) (at : PlacedTlv) (said : ℕ × ℕ × ℕ) → least_core ≤ 9 → list_said least_list least_core at ≡ Ok said → IsSaid least_list least_core said
  unfolding list_said
  list_ok least_list least_core at said few e =
      each_of (field 1 (inside at)) e (λ one is_one e.
      each_of (time_at one.0) e (λ t is_time e.
      each_of (rises least_list t one.0.place) e (λ up is_up e.
      each_of (field 2 one.1) e (λ two is_two e.
      each_of (number_at two.0) e (λ n is_number e.
      each_of (core_at two.0 n) e (λ core is_core e.
      each_of (rises (core_from least_list least_core t) core two.0.place) e (λ on is_on e.
      each_of (field 3 two.1) e (λ three is_three e.
      each_of (number_at three.0) e (λ count is_count e.
      each_of (done three.1) e (λ end is_end e.
      let low = test_ok (leb n 8) n (orders.Bound two.0.place) core is_core in
      subst (IsSaid least_list least_core) (ok_is {F = OrderFault} (t, core, count) said e) (record {
        rises = rank_rises least_list least_core t core few (rises_ok least_list t one.0.place up is_up) (rises_ok (core_from least_list least_core t) core two.0.place on is_on);
        early = bounded.early one.0 t is_time;
        core = subst (λ (core : ℕ). core ≤ 8) low.1 (leb-true n 8 low.0);
      })))))))))))
