-- What is told is so: a submission is the item of a closed round, and a response leads from what its addressee submitted
-- to a root that is held. What is so stays so.
use Rattle.std.proofs.Common.{◌≡◌, ◌≢◌, ℕ, zero, suc, ◌<◌, ◌≤◌, List, [], ◌∷◌, ◌++◌, length, sym, ap, subst, ◌∙◌, arith, inl, inr, Some}
use Rattle.std.specs.Prelude.{slice_get}
use Rattle.std.proofs.lemmas.List.{length-map}
use Rattle.ksi_imprint.specs.Imprints.{zero_imprint}
use Rattle.ksi_calendar.specs.Calendar.{Seconds, calendar_path}
use Rattle.ksi_aggtree.specs.declared.chains.node.Node.{Node}
use Rattle.ksi_aggtree.specs.declared.item.Item.{Item}
use Rattle.ksi_aggtree.specs.Climbing.{Climbs}
use Rattle.ksi_aggtree.specs.Owned.{plain_links}
use Rattle.ksi_aggtree.specs.declared.entries.Entry.{Entry}
use Rattle.ksi_aggtree.specs.declared.entries.Origin.TheVariants as origins
use Rattle.ksi_aggtree.specs.Rounds.{IsRound, as_node, as_item, with_name, item_at, tree_of}
use Rattle.ksi_aggtree.specs.Paths.{chain_of}
use Rattle.ksi_aggtree.specs.Entries.{items_of}
use Rattle.ksi_signature.specs.declared.above.Above.{Above}
use Rattle.ksi_calendar.specs.Covered.{covered_seconds}
use Rattle.ksi_aggregator.specs.Responses.{below}
use Rattle.ksi_aggregator.specs.Rows.{submitted_entry}
use Rattle.ksi_schedule.specs.declared.actor.Actor.{Actor}
use Rattle.ksi_schedule.specs.declared.actor.Actor.TheVariants as actors
use Rattle.ksi_schedule.specs.Plans.{PlanState, IsPlan, name_of}
use Rattle.ksi_world.specs.declared.message.Content.{Content}
use Rattle.ksi_world.specs.declared.message.Content.TheVariants as contents
use Rattle.ksi_world.specs.declared.message.Message.{Message}
use Rattle.ksi_world.specs.Histories.{WorldState, held_in}
use Rattle.ksi_world.specs.Sound.{AreOf}
use Rattle.ksi_world.specs.Joined.{ChainsClimb}
use Rattle.ksi_world.proofs.Covering.{AllHeld, HeldToo, all_too, seconds_same}
use Rattle.ksi_world.proofs.Growing.{Grew}
use Rattle.ksi_world.proofs.Sending.{are_low}
use Rattle.ksi_world.proofs.Turning.{get_push}

-- the law of chains
abbrev pub ItemClimbs : (List ℕ → List ℕ) → Type 0
ItemClimbs image = (items : List Item) (k : ℕ) → IsRound items → k < length items → Climbs image (as_node (item_at items k)) (plain_links (chain_of image items k)) (tree_of image items)

module _ (image : List ℕ → List ℕ) (plan : PlanState) where
  -- the aggregator has closed this round, and submits this item for it, with its name
  pub record IsClosedAs (w : WorldState) (a t : ℕ) (item : Item) : Type 0 where
    pub entries : List Entry
    pub closed : (w.rounds a t).closed ≡ Some entries
    pub item_is : with_name (name_of plan a) (as_item (tree_of image (items_of entries))) ≡ item

  -- from the node the chains climb to the root. A core holds it, and all seconds up to it, and the calendar links are those
  -- from this second to the calendar of it
  pub record Joins (w : WorldState) (t : ℕ) (node : Node) (above : Above) : Type 0 where
    pub top : Node
    pub climbs : ChainsClimb image node above.chains top
    pub root_is : top.imprint ≡ above.root
    pub core : ℕ
    pub there : core < plan.cores
    pub from : plan.start ≤ t
    pub held : held_in w core t ≡ Some above.root
    pub all : AllHeld (held_in w core) plan.start t
    pub calendar : above.calendar ≡ calendar_path image (covered_seconds (held_in w core) plan.start t) t t
    pub real : above.root ≢ zero_imprint
    pub low : top.level ≤ 153

  pub record IsAnswer (w : WorldState) (a t : ℕ) (above : Above) : Type 0 where
    pub item : Item
    pub closed : IsClosedAs w a t item
    pub joins : Joins w t (as_node item) above

  -- each item of an aggregator is what it submitted
  abbrev pub AreSubmitted : WorldState → (t : ℕ) → List Entry → Type 0
  AreSubmitted w t entries = (i a : ℕ) (item : Item) → slice_get entries i ≡ Some (submitted_entry a item) → IsClosedAs w a t item

  abbrev pub IsSubmission : WorldState → (sender : Actor) (t : ℕ) → Item → Type 0
  IsSubmission w (actors.Aggregator a) t item = IsClosedAs w a t item
  IsSubmission w (actors.Core j) t item = Unit {0}

  -- a core that sends it holds its root
  abbrev pub IsHeldBy : WorldState → (sender : Actor) (t : ℕ) → Above → Type 0
  IsHeldBy w (actors.Core j) t above = held_in w j t ≡ Some above.root
  IsHeldBy w (actors.Aggregator a) t above = Unit {0}

  abbrev pub IsResponse : WorldState → (sender addressee : Actor) (t : ℕ) → Above → Type 0
  IsResponse w sender (actors.Aggregator a) t above = IsHeldBy w sender t above × IsAnswer w a t above
  IsResponse w sender (actors.Core j) t above = Unit {0}

  abbrev pub IsSo : WorldState → (sender addressee : Actor) (t : ℕ) → Content → Type 0
  IsSo w sender addressee t (contents.Submission item) = IsSubmission w sender t item
  IsSo w sender addressee t (contents.Response above) = IsResponse w sender addressee t above
  IsSo w sender addressee t (contents.Synod m) = Unit {0}

  abbrev pub AreSo : WorldState → List Message → Type 0
  AreSo w ms = (i : ℕ) (m : Message) → slice_get ms i ≡ Some m → IsSo w m.sender m.addressee m.second m.content

  -- LATER

  module _ (w w' : WorldState) (grew : Grew w w') where
    pub closed_later : (a t : ℕ) (item : Item) → IsClosedAs w a t item → IsClosedAs w' a t item
    closed_later a t item is = record { entries = is.entries; closed = grew.closed a t is.entries is.closed; item_is = is.item_is }

    pub joins_later : (t : ℕ) (node : Node) (above : Above) → Joins w t node above → Joins w' t node above
    joins_later t node above is =
        let too : HeldToo (held_in w is.core) (held_in w' is.core) plan.start t = λ t from to root at. grew.held is.core t root at in
        record {
          top = is.top;
          climbs = is.climbs;
          root_is = is.root_is;
          core = is.core;
          there = is.there;
          from = is.from;
          held = grew.held is.core t above.root is.held;
          all = all_too (held_in w is.core) (held_in w' is.core) plan.start t is.all too;
          calendar = is.calendar ∙ ap (λ (seconds : Seconds). calendar_path image seconds t t) (seconds_same (held_in w is.core) (held_in w' is.core) plan.start t is.all too);
          real = is.real;
          low = is.low;
        }

    pub answer_later : (a t : ℕ) (above : Above) → IsAnswer w a t above → IsAnswer w' a t above
    answer_later a t above is = record { item = is.item; closed = closed_later a t is.item is.closed; joins = joins_later t (as_node is.item) above is.joins }

    pub submitted_later : (t : ℕ) (entries : List Entry) → AreSubmitted w t entries → AreSubmitted w' t entries
    submitted_later t entries are i a item at = closed_later a t item (are i a item at)

    submission_later : (sender : Actor) (t : ℕ) (item : Item) → IsSubmission w sender t item → IsSubmission w' sender t item
    submission_later (actors.Aggregator a) t item is = closed_later a t item is
    submission_later (actors.Core j) t item is = tt

    held_later : (sender : Actor) (t : ℕ) (above : Above) → IsHeldBy w sender t above → IsHeldBy w' sender t above
    held_later (actors.Core j) t above is = grew.held j t above.root is
    held_later (actors.Aggregator a) t above is = tt

    response_later : (sender addressee : Actor) (t : ℕ) (above : Above) → IsResponse w sender addressee t above → IsResponse w' sender addressee t above
    response_later sender (actors.Aggregator a) t above is = (held_later sender t above is.0, answer_later a t above is.1)
    response_later sender (actors.Core j) t above is = tt

    so_later : (sender addressee : Actor) (t : ℕ) (content : Content) → IsSo w sender addressee t content → IsSo w' sender addressee t content
    so_later sender addressee t (contents.Submission item) is = submission_later sender t item is
    so_later sender addressee t (contents.Response above) is = response_later sender addressee t above is
    so_later sender addressee t (contents.Synod m) is = tt

    pub all_later : (ms : List Message) → AreSo w ms → AreSo w' ms
    all_later ms are i m at = so_later m.sender m.addressee m.second m.content (are i m at)

  -- ONE ITEM MORE

  pub none_submitted : (w : WorldState) (t : ℕ) → AreSubmitted w t []
  none_submitted w t i a item at = absurd (cc at)

  pub submitted_push : (w : WorldState) (t : ℕ) (entries : List Entry) (from : ℕ) (new : Item) → AreSubmitted w t entries → IsClosedAs w from t new → AreSubmitted w t (entries ++ submitted_entry from new ∷ [])
  submitted_push w t entries from new are is i a item at = elim (get_push entries (submitted_entry from new) i (submitted_entry a item) at) [
    | inl old ↦ are i a item old
    | inr last ↦
        let origin : origins.Aggregator a ≡ origins.Aggregator from = ap (λ (e : Entry). e.origin) last.1 in
        let a_is : a ≡ from = cc origin in
        let item_is : item ≡ new = ap (λ (e : Entry). e.item) last.1 in
        subst (λ a. IsClosedAs w a t item) (sym a_is) (subst (λ (item : Item). IsClosedAs w from t item) (sym item_is) is)
  ]

  pub requested_push : (w : WorldState) (t : ℕ) (entries : List Entry) (number : ℕ) (new : Item) → AreSubmitted w t entries → AreSubmitted w t (entries ++ record { origin = origins.Request number; item = new } ∷ [])
  requested_push w t entries number new are i a item at = elim (get_push entries (record { origin = origins.Request number; item = new }) i (submitted_entry a item) at) [
    | inl old ↦ are i a item old
    | inr last ↦ let origin : origins.Aggregator a ≡ origins.Request number = ap (λ (e : Entry). e.origin) last.1 in absurd (cc origin)
  ]

  -- BELOW A RESPONSE

  pub entry_at : (es : List Entry) (k : ℕ) (e : Entry) → slice_get es k ≡ Some e → (item_at (items_of es) k ≡ e.item) × (k < length (items_of es))
  entry_at [] k e at = absurd (cc at)
  entry_at (x ∷ es) zero e at = let same : x ≡ e = cc at in (ap (λ (x : Entry). x.item) same, omega arith)
  entry_at (x ∷ es) (suc k) e at = let r = entry_at es k e at in let lt = r.1 in (r.0, omega (arith, lt))

  -- items that came up in a plan are a round
  pub round_is : IsPlan plan → (here : Actor) (n : ℕ) (es : List Entry) → AreOf plan here n es → length es ≤ 65536 → IsRound (items_of es)
  round_is is here n es are few = let f : Entry → Item = λ e. e.item in record {
    few = omega (arith, length-map es f, few);
    low = λ k. omega (arith, are_low plan is here n es are k);
  }

  pub joins_below : ItemClimbs image → (w : WorldState) (t : ℕ) (above : Above) (all : List Entry) → IsRound (items_of all) → Joins w t (tree_of image (items_of all)) above → (k : ℕ) (e : Entry) → slice_get all k ≡ Some e →
      Joins w t (as_node e.item) (below image above (items_of all) k)
  joins_below climb w t above all round joins k e at =
      let there = entry_at all k e at in
      let climbs = subst (λ (x : Item). Climbs image (as_node x) (plain_links (chain_of image (items_of all) k)) (tree_of image (items_of all))) there.0 (climb (items_of all) k round there.1) in
      record {
        top = joins.top;
        climbs = (tree_of image (items_of all), ap (λ (x : Item). x.imprint) there.0, climbs, joins.climbs);
        root_is = joins.root_is;
        core = joins.core;
        there = joins.there;
        from = joins.from;
        held = joins.held;
        all = joins.all;
        calendar = joins.calendar;
        real = joins.real;
        low = joins.low;
      }
