-- What holds of the zero imprint, of each hash and of what each request asks for holds of all that is kept, published and
-- issued.
use Rattle.std.proofs.Common.{◌≡◌, ◌≢◌, ℕ, zero, suc, ◌+◌, ◌^◌, ◌<◌, ◌≤◌, Bool, true, false, List, [], ◌∷◌, length, refl, sym, ap, subst, ◌∙◌, arith, Some}
use Rattle.std.specs.Prelude.{slice_get}
use Rattle.std.specs.List.{AllByRecursion}
use Rattle.std.specs.Str.{bytes_eq}
use Rattle.std.proofs.lemmas.Slice.Eq.{bytes_eq-Decides}
use Rattle.ksi_imprint.specs.Imprints.{zero_imprint}
use Rattle.ksi_split.specs.declared.tree_link.TreeLink.{TreeLink}
use Rattle.ksi_aggtree.specs.declared.chains.link.Link.{Link}
use Rattle.ksi_calendar.specs.Calendar.{Seconds, calendar_path}
use Rattle.ksi_aggtree.specs.Entries.{items_of}
use Rattle.ksi_aggtree.specs.declared.entries.Entry.{Entry}
use Rattle.ksi_signature.specs.Above.{AreRoundLinks}
use Rattle.ksi_signature.specs.declared.above.Above.{Above}
use Rattle.ksi_aggregator.specs.Issuing.{from_request, IsIssuedAt}
use Rattle.ksi_aggregator.specs.Responses.{chain_at}
use Rattle.ksi_calendar.specs.Covered.{covered_seconds}
use Rattle.ksi_schedule.specs.declared.actor.Actor.TheVariants as actors
use Rattle.ksi_schedule.specs.declared.event.Event.{Event}
use Rattle.ksi_schedule.specs.Plans.{PlanState, IsPlan, InRange}
use Rattle.ksi_schedule.specs.Events.{AreEvents}
use Rattle.ksi_world.specs.declared.outcome.Asked.{Asked}
use Rattle.ksi_world.specs.Histories.{WorldState, held_in, after}
use Rattle.ksi_world.specs.Records.{kept_root, issued_of}
use Rattle.ksi_world.specs.Joined.{IsJoined}
use Rattle.ksi_world.specs.Sound.{IsRoundAt, IsSound}
use Rattle.ksi_world.proofs.Carrying.{RoundLaws, IsCarriedDown, AskFor, AllOf, chain_of_round, after_all}
use Rattle.ksi_world.proofs.Deciding.{StepsAgree, StepsValid, after_sound, proposed}
use Rattle.ksi_world.proofs.Imprinted.{EachSibling, OfItem, OfEntries, OfLink, OfChain, candidate_is, calendar_siblings}
use Rattle.ksi_world.proofs.IssuedJoined.{joined_at}
use Rattle.ksi_world.proofs.IssuedOf.{issued_there}
use Rattle.ksi_world.proofs.Joining.{round_is}
use Rattle.ksi_world.proofs.Listed.{held_range}
use Rattle.ksi_world.proofs.Lowest.{lowest_some}
use Rattle.ksi_world.proofs.Voted.{Voted, after_voted}

-- a path in the calendar to a second below 2^63 has at most 63 links
abbrev pub CalendarShort : (List ℕ → List ℕ) → Type 0
CalendarShort image = (seconds : Seconds) (t p : ℕ) → p + 1 ≤ 2 ^ 63 → length (calendar_path image seconds t p) ≤ 63

-- the k-th of a list of which something holds
get_all : (P : List ℕ → Type 0) (es : List Entry) (k : ℕ) (e : Entry) → slice_get es k ≡ Some e → OfEntries P es → OfItem P e.item
get_all P [] k e at have = absurd (cc at)
get_all P (x ∷ es) zero e at have = let same : x ≡ e = cc at in subst (λ (e : Entry). OfItem P e.item) same have.0
get_all P (x ∷ es) (suc k) e at have = get_all P es k e at have.1

within : (es : List Entry) (k : ℕ) (e : Entry) → slice_get es k ≡ Some e → k < length es
within [] k e at = absurd (cc at)
within (x ∷ es) zero e at = omega arith
within (x ∷ es) (suc k) e at = let lt = within es k e at in omega (arith, lt)

-- a signature is issued of these
pub record IsIssuedOf (P : List ℕ → Type 0) (second : ℕ) (input : List ℕ) (links : List Link) (above : Above) : Type 0 where
  pub early : second < 2 ^ 63
  pub imprint : P input
  pub limits : AreRoundLinks links
  pub are : AllByRecursion (OfLink P) links
  pub root : P above.root
  pub count : length above.chains ≤ 8
  pub chains : AllByRecursion (OfChain P) above.chains
  pub few : length above.calendar ≤ 63
  pub calendar : EachSibling P above.calendar

module _ (P : List ℕ → Type 0) (image : List ℕ → List ℕ) (plan : PlanState) (is : IsPlan plan) (laws : RoundLaws P image) (agree : StepsAgree) (valid : StepsValid) (short : CalendarShort image)
    (es : List Event) (are : AreEvents plan es) (ask : AskFor P es) where
  sound : IsSound plan (after image plan es)
  sound = after_sound image plan is laws.rises es are

  voted : Voted image plan (after image plan es)
  voted = after_voted image plan is es are

  all : AllOf P (after image plan es)
  all = after_all P image plan is laws es are ask

  held_is : (core t : ℕ) (root : List ℕ) → held_in (after image plan es) core t ≡ Some root → P root
  held_is core t root held = by (bytes_eq root zero_imprint) refl
    where
      by : (missed : Bool) → bytes_eq root zero_imprint ≡ missed → P root
      by true matches = subst P (sym ((bytes_eq-Decides root zero_imprint).0 matches)) laws.zero_too
      by false differs =
          let real : root ≢ zero_imprint = λ same. absurd (cc (sym differs ∙ (bytes_eq-Decides root zero_imprint).1 same)) in
          let p = proposed image plan is valid (after image plan es) sound voted core t root held real in
          subst P p.candidate (candidate_is P laws.zero_too image laws.images p.entries ((all.seconds p.owner t).sealed p.entries p.sealed))

  -- what is kept is such an imprint
  pub kept_is : (t : ℕ) (root : List ℕ) → kept_root plan (after image plan es) t ≡ Some root → P root
  kept_is t root at = let holder = lowest_some (λ core. held_in (after image plan es) core t) 0 plan.cores root at in held_is holder.0 t root holder.3

  -- and its second is the plan's
  pub kept_range : (t : ℕ) (root : List ℕ) → kept_root plan (after image plan es) t ≡ Some root → InRange plan t
  kept_range t root at =
      let holder = lowest_some (λ core. held_in (after image plan es) core t) 0 plan.cores root at in
      held_range image plan (after image plan es) voted sound holder.0 t root holder.3

  carried_at : (w : WorldState) → w ≡ after image plan es → (number : ℕ) (text : List ℕ) (asked : Asked) → slice_get w.requests number ≡ Some asked → (t k : ℕ) → IsIssuedAt image (w.rounds asked.aggregator t) number t k text →
      (joined : IsJoined image plan (after image plan es) number text) × IsIssuedOf P joined.asked.second joined.asked.imprint joined.links joined.above
  unfolding joined_at
  carried_at w w_is number text asked accepted t k at = (
    joined,
    record {
      early = omega (arith, range.1, is.core_plan.early);
      imprint = (get_all P at.entries k (from_request number at.item) at.request have).0;
      limits = own.limits;
      are = own.links;
      root = kept_is t at.above.root joined.kept;
      count = down.few;
      chains = down.chains;
      few = subst (λ (links : List (TreeLink (List ℕ))). length links ≤ 63) (sym joined.calendar) (short (covered_seconds (kept_root plan (after image plan es)) plan.start t) t t (omega (arith, range.1, is.core_plan.early)));
      calendar = subst (EachSibling P) (sym joined.calendar) (calendar_siblings P laws.zero_too image laws.images (kept_root plan (after image plan es)) kept_is plan.start t t t);
    },
  )
    where
      joined : IsJoined image plan (after image plan es) number text
      joined = joined_at image plan is laws.rises laws.climb agree es are w w_is number text asked accepted t k at

      range : InRange plan t
      range = kept_range t at.above.root (joined_at image plan is laws.rises laws.climb agree es are w w_is number text asked accepted t k at).kept

      closed : ((after image plan es).rounds asked.aggregator t).closed ≡ Some at.entries
      closed = ap (λ (w : WorldState). (w.rounds asked.aggregator t).closed) (sym w_is) ∙ at.answered.closed

      answered : ((after image plan es).rounds asked.aggregator t).answered ≡ Some at.above
      answered = ap (λ (w : WorldState). (w.rounds asked.aggregator t).answered) (sym w_is) ∙ at.answered.answered

      have : OfEntries P at.entries
      have = (all.rounds asked.aggregator t).closed at.entries closed

      down : IsCarriedDown P at.above
      down = (all.rounds asked.aggregator t).answered at.above answered

      at_round : IsRoundAt plan (actors.Aggregator asked.aggregator) (length (after image plan es).requests) at.entries
      at_round = (sound.rounds asked.aggregator t).closed at.entries closed

      own : OfChain P (chain_at image (items_of at.entries) k)
      own = chain_of_round P image plan is laws at.entries (round_is image plan is (actors.Aggregator asked.aggregator) (length (after image plan es).requests) at.entries at_round.are at_round.few) have k
          (within at.entries k (from_request number at.item) at.request)

  pub issued_carried : (number : ℕ) (text : List ℕ) → issued_of image (after image plan es) number ≡ Some text →
      (joined : IsJoined image plan (after image plan es) number text) × IsIssuedOf P joined.asked.second joined.asked.imprint joined.links joined.above
  issued_carried number text is_issued =
      let p = issued_there image (after image plan es) number text is_issued in
      carried_at (after image plan es) refl number text p.asked p.accepted p.issued.0 p.issued.1 p.issued.2
