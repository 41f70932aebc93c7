-- The rows of a second that is well store lawfully, and leave it well.
use Rattle.std.proofs.Common.{◌≡◌, ◌∙◌, ℕ, zero, suc, ◌+◌, ◌*◌, ◌/◌, ◌<◌, ◌≤◌, ◌^◌, ◌≢◌, Bool, true, false, ◌&&◌, eqb, ltb, List, [], ◌∷◌, ◌++◌, length, max, Option, Some, None, refl, sym, ap, subst, arith}
use Rattle.std.specs.Prelude.{is_some, option_map, IfSome, IsSome, IsNone, IsTrue}
use Rattle.std.specs.List.{list_all}
use Rattle.std.proofs.lemmas.Bool.{cond_both, eqb-true, eqb-false, ltb-true, and_parts}
use Rattle.ksi_aggtree.specs.declared.item.Item.{Item}
use Rattle.ksi_aggtree.specs.declared.entries.Entry.{Entry}
use Rattle.ksi_aggtree.specs.Rounds.{IsRound, item_at, leaf_level, highest_item, most_items}
use Rattle.ksi_aggtree.specs.Entries.{items_of, has_from, is_full, candidate_of}
use Rattle.ksi_calendar.specs.Covered.{Roots, first_missing}
use Rattle.ksi_synod.specs.CorePlans.{CorePlanState}
use Rattle.ksi_synod.specs.declared.messages.Vote.{Vote}
use Rattle.ksi_synod.specs.declared.messages.LastVote.{LastVote}
use Rattle.ksi_synod.specs.declared.messages.SynodMessage.{SynodMessage}
use Rattle.ksi_synod.specs.declared.messages.SynodMessage.TheVariants as message
use Rattle.ksi_synod.specs.declared.messages.Begun.{Begun}
use Rattle.ksi_synod.specs.declared.messages.Took.{Took}
use Rattle.ksi_synod.specs.declared.messages.Took.TheVariants as took
use Rattle.ksi_synod.specs.VoteState.{VoteState, Hand}
use Rattle.ksi_synod.specs.Ballots.{IsBallot, last_round}
use Rattle.ksi_synod.specs.Rows.{seal, seal_of, greater_round, try_ballot, try_ballot_of, on_next, counts_last, on_last, on_last_of, is_older, on_begin, voted_for, with_voted, completes, on_voted, on_voted_of, on_voted_for, on_success, on_success_of, receive, OfBallot}
use Rattle.ksi_signature.specs.declared.answer.Answer.{Answer}
use Rattle.ksi_corenode.specs.declared.fact.What.{What}
use Rattle.ksi_corenode.specs.declared.fact.What.TheVariants as what
use Rattle.ksi_corenode.specs.SecondState.{SecondState}
use Rattle.ksi_corenode.specs.Facts.{stable_state}
use Rattle.ksi_corenode.specs.Turns.{Turn}
use Rattle.ksi_corenode.specs.Lawful.{is_submitted, AreSubmitted, MayStore}
use Rattle.ksi_corenode.specs.Restored.{IsWell}
use Rattle.ksi_corenode.specs.Rows.{submitted, taken, submission_row, seal_row, ballot_fact, ballot_row, where_news, decided_fact, receive_row, tell_row, is_mine, respond_where, respond_row}
use Rattle.ksi_corenode.proofs.Changes.{no_some}

-- what a turn stores may be stored, and the second after it is well
pub record IsGood (image : List ℕ → List ℕ) (s : SecondState) (turn : Turn) : Type 0 where
  pub fact : IfSome turn.fact (MayStore (stable_state s))
  pub well : IsWell image turn.after

-- the same of a vote after a step and what is stored by it
record IsGoodVote (image : List ℕ → List ℕ) (s : SecondState) (after : VoteState) (stores : Option What) : Type 0 where
  pub fact : IfSome stores (MayStore (stable_state s))
  pub well : IsWell image (record s { vote = after })

-- AN ITEM MORE

item_behind : (items : List Item) (item : Item) (k : ℕ) → ((k : ℕ) → leaf_level (item_at items k) ≤ highest_item) → leaf_level item ≤ highest_item → leaf_level (item_at (items ++ item ∷ []) k) ≤ highest_item
item_behind [] item zero low level = level
item_behind [] item (suc k) low level = low k
item_behind (x ∷ xs) item zero low level = low 0
item_behind (x ∷ xs) item (suc k) low level = item_behind xs item k (λ j. low (suc j)) level

length_more : (items : List Item) (item : Item) → length (items ++ item ∷ []) ≡ length items + 1
length_more [] item = refl
length_more (x ∷ xs) item = let one : length (xs ++ item ∷ []) ≡ length xs + 1 = length_more xs item in omega (arith, one)

items_more : (entries : List Entry) (entry : Entry) → items_of (entries ++ entry ∷ []) ≡ items_of entries ++ entry.item ∷ []
items_more [] entry = refl
items_more (x ∷ xs) entry = ap (λ (items : List Item). x.item ∷ items) (items_more xs entry)

items_length : (entries : List Entry) → length (items_of entries) ≡ length entries
items_length [] = refl
items_length (x ∷ xs) = ap suc (items_length xs)

round_more : (from : ℕ) (item : Item) (entries : List Entry) → leaf_level item ≤ highest_item → IsRound (items_of entries) → is_full entries ≡ false → IsRound (items_of (entries ++ submitted from item ∷ []))
round_more from item entries level round room =
    subst IsRound (sym (items_more entries (submitted from item))) (record {
      few =
          let apart : length entries ≢ most_items = eqb-false (length entries) most_items room in
          omega (arith, apart, round.few, items_length entries, length_more (items_of entries) item);
      low = λ k. item_behind (items_of entries) item k round.low level;
    })

submitted_more : (from : ℕ) (item : Item) (entries : List Entry) → AreSubmitted entries → AreSubmitted (entries ++ submitted from item ∷ [])
submitted_more from item [] are = refl
submitted_more from item (x ∷ xs) are = by (is_submitted x.origin) are (λ rest. submitted_more from item xs rest)
  where
    by : (b : Bool) → IsTrue (b && list_all (λ (entry : Entry). is_submitted entry.origin) xs) →
        (AreSubmitted xs → AreSubmitted (xs ++ submitted from item ∷ [])) → IsTrue (b && list_all (λ (entry : Entry). is_submitted entry.origin) (xs ++ submitted from item ∷ []))
    by true is more = more is
    by false is more = absurd (cc is)

module _ (image : List ℕ → List ℕ) (s : SecondState) (well : IsWell image s) where
  -- nothing is stored, and the second stays
  pub still_good : (turn : Turn) → turn.after ≡ s → turn.fact ≡ None → IsGood image s turn
  still_good turn after none = record { fact = subst (λ (o : Option What). IfSome o (MayStore (stable_state s))) (sym none) tt; well = subst (IsWell image) (sym after) well }

  with_items : (items : List Entry) → IsRound (items_of items) → AreSubmitted items → IsWell image (record s { open_items = items })
  with_items items round are = record { mine = well.mine; round = round; submitted = are; candidate = well.candidate; tried = well.tried; promised = well.promised }

  pub submission_good : (from : ℕ) (item : Item) → leaf_level item ≤ highest_item → IsGood image s (submission_row from item s)
  unfolding submission_row
  submission_good from item level = cond_both (is_some s.sealed) _ _ (λ (turn : Turn). IsGood image s turn) (λ _. still_good _ refl refl) (λ _. record { fact = tt; well = after })
    where
      after : IsWell image (record s { open_items = (taken from item s.open_items).0 })
      after = cond_both (has_from from s.open_items) _ _ (λ (row : List Entry × Answer). IsWell image (record s { open_items = row.0 })) (λ _. well)
          (λ _. cond_both (is_full s.open_items) _ _ (λ (row : List Entry × Answer). IsWell image (record s { open_items = row.0 })) (λ _. well)
          (λ room. with_items _ (round_more from item s.open_items level well.round room) (submitted_more from item s.open_items well.submitted)))

  -- without sealed items there is no candidate, and with one there are
  none_there : IsNone s.sealed → s.vote.candidate ≡ None
  none_there none = by s.sealed none well.candidate
    where
      by : (o : Option (List Entry)) → IsNone o → s.vote.candidate ≡ option_map (candidate_of image) o → s.vote.candidate ≡ None
      by None is candidate = candidate
      by (Some items) is candidate = absurd (cc is)

  some_there : (c : List ℕ) → s.vote.candidate ≡ Some c → IsSome s.sealed
  some_there c is = by s.sealed well.candidate
    where
      by : (o : Option (List Entry)) → s.vote.candidate ≡ option_map (candidate_of image) o → IsSome o
      by None candidate = absurd (cc (sym is ∙ candidate))
      by (Some items) candidate = refl

  pub seal_good : IsGood image s (seal_row image s)
  unfolding seal_row seal
  seal_good = cond_both (is_some s.sealed) _ _ (λ (turn : Turn). IsGood image s turn) (λ _. still_good _ refl refl) (λ none. record {
    fact = (no_some s.sealed none, well.round, well.submitted);
    well = by s.vote.candidate (none_there (no_some s.sealed none));
  })
    where
      by : (o : Option (List ℕ)) → o ≡ None → IsWell image (record { vote = seal_of o s.vote (candidate_of image s.open_items); open_items = []; sealed = Some s.open_items })
      by None is = record { mine = well.mine; round = record { few = omega arith; low = λ k. omega arith }; submitted = refl; candidate = refl; tried = well.tried; promised = well.promised }
      by (Some c) is = absurd (cc is)

  -- THE VOTE

  with_vote : (after : VoteState) → after.me ≡ s.vote.me → after.candidate ≡ s.vote.candidate → after.tried < 2 ^ 36 → after.promised < 2 ^ 36 → IsWell image (record s { vote = after })
  with_vote after mine candidate tried promised = record {
    mine = subst (λ (n : ℕ). n < 9) (sym mine) well.mine;
    round = well.round;
    submitted = well.submitted;
    candidate = candidate ∙ well.candidate;
    tried = tried;
    promised = promised;
  }

  same_vote : (after : VoteState) → after.me ≡ s.vote.me → after.candidate ≡ s.vote.candidate → after.tried ≡ s.vote.tried → after.promised ≡ s.vote.promised → IsWell image (record s { vote = after })
  same_vote after mine candidate tried promised = with_vote after mine candidate (subst (λ (n : ℕ). n < 2 ^ 36) (sym tried) well.tried) (subst (λ (n : ℕ). n < 2 ^ 36) (sym promised) well.promised)

  -- the next ballot is one, and is above the last
  next_is_ballot : (me tried promised : ℕ) → me < 9 → tried < 2 ^ 36 → promised < 2 ^ 36 → max (tried / 16) (promised / 16) ≢ last_round →
      (tried < 16 * (max (tried / 16) (promised / 16) + 1) + me) × IsBallot (16 * (max (tried / 16) (promised / 16) + 1) + me)
  next_is_ballot me tried promised mine below_tried below_promised other = (omega arith, (omega arith, omega arith))

  try_good : IsGoodVote image s (try_ballot s.vote).0 (ballot_fact (try_ballot s.vote).1)
  unfolding try_ballot
  try_good = by s.vote.candidate refl
    where
      by : (o : Option (List ℕ)) → s.vote.candidate ≡ o → IsGoodVote image s (try_ballot_of o s.vote).0 (ballot_fact (try_ballot_of o s.vote).1)
      by None is = record { fact = tt; well = well }
      by (Some c) is = cond_both (eqb (greater_round s.vote) last_round) _ _ (λ (r : VoteState × Begun). IsGoodVote image s r.0 (ballot_fact r.1)) (λ _. record { fact = tt; well = well })
          (λ room. let next = next_is_ballot s.vote.me s.vote.tried s.vote.promised well.mine well.tried well.promised (eqb-false (greater_round s.vote) last_round room) in record {
            fact = (some_there c is, next.0, next.1);
            well = with_vote _ refl refl next.1.1 well.promised;
          })

  next_good : (b : ℕ) → IsBallot b → IsGoodVote image s (on_next s.vote b).0 (where_news (is_some (on_next s.vote b).1) (what.Promised b))
  unfolding on_next
  next_good b is = cond_both (ltb s.vote.promised b) _ _ (λ (r : VoteState × Option LastVote). IsGoodVote image s r.0 (where_news (is_some r.1) (what.Promised b)))
      (λ above. record { fact = (ltb-true s.vote.promised b above, is); well = with_vote _ refl refl well.tried is.1 }) (λ _. record { fact = tt; well = well })

  last_good : (from b : ℕ) (v : Option Vote) → IsGoodVote image s (on_last s.vote from b v).0 None
  unfolding on_last
  last_good from b v = by s.vote.hand
    where
      by : (o : Option Hand) → IsGoodVote image s (on_last_of o s.vote from b v).0 None
      by None = record { fact = tt; well = well }
      by (Some h) = cond_both (counts_last s.vote.voters (Some h) from b) _ _ (λ (r : VoteState × Took). IsGoodVote image s r.0 None)
          (λ _. record { fact = tt; well = same_vote _ refl refl refl refl }) (λ _. record { fact = tt; well = well })

  begin_good : (b : ℕ) (d : List ℕ) → IsBallot b → IsGoodVote image s (on_begin s.vote b d).0 (where_news (on_begin s.vote b d).1 (what.Cast (record { ballot = b; imprint = d })))
  unfolding on_begin
  begin_good b d is = cond_both (eqb b s.vote.promised && is_older s.vote.vote b) _ _ (λ (r : VoteState × Bool). IsGoodVote image s r.0 (where_news r.1 (what.Cast (record { ballot = b; imprint = d }))))
      (λ both. let parts = and_parts (eqb b s.vote.promised) (is_older s.vote.vote b) both in
      record { fact = (eqb-true b s.vote.promised parts.0, parts.1, is); well = same_vote _ refl refl refl refl }) (λ _. record { fact = tt; well = well })

  voted_good : (from b : ℕ) → IsGoodVote image s (on_voted s.vote from b).0 (decided_fact s.vote.held (on_voted s.vote from b).1)
  unfolding on_voted
  voted_good from b = by s.vote.hand
    where
      none : (o : Option (List ℕ)) → IfSome (decided_fact o took.Nothing) (MayStore (stable_state s))
      none None = tt
      none (Some held) = tt

      added : (o : Option (List ℕ)) → IfSome (decided_fact o took.Added) (MayStore (stable_state s))
      added None = tt
      added (Some held) = tt

      holds : (d : List ℕ) (o : Option (List ℕ)) → s.vote.held ≡ o → IfSome (decided_fact o (took.Decree d)) (MayStore (stable_state s))
      holds d None is = ap (λ (o : Option (List ℕ)). is_some o) is
      holds d (Some held) is = tt

      for_by : (h : Hand) (o : Option (List ℕ)) → IsGoodVote image s (on_voted_for o h s.vote from).0 (decided_fact s.vote.held (on_voted_for o h s.vote from).1)
      for_by h None = record { fact = none s.vote.held; well = well }
      for_by h (Some d) = cond_both (completes s.vote.voters h (with_voted h from)) _ _ (λ (r : VoteState × Took). IsGoodVote image s r.0 (decided_fact s.vote.held r.1))
          (λ _. record { fact = holds d s.vote.held refl; well = same_vote _ refl refl refl refl }) (λ _. record { fact = added s.vote.held; well = same_vote _ refl refl refl refl })

      by : (o : Option Hand) → IsGoodVote image s (on_voted_of o s.vote from b).0 (decided_fact s.vote.held (on_voted_of o s.vote from b).1)
      by None = record { fact = none s.vote.held; well = well }
      by (Some h) = for_by h (voted_for s.vote.voters (Some h) from b)

  success_good : (d : List ℕ) → IsGoodVote image s (on_success s.vote d).0 (where_news (on_success s.vote d).1 (what.Holds d))
  unfolding on_success
  success_good d = by s.vote.held refl
    where
      by : (o : Option (List ℕ)) → s.vote.held ≡ o → IsGoodVote image s (on_success_of o s.vote d).0 (where_news (on_success_of o s.vote d).1 (what.Holds d))
      by None is = record { fact = ap (λ (o : Option (List ℕ)). is_some o) is; well = same_vote _ refl refl refl refl }
      by (Some held) is = record { fact = tt; well = well }

  pub ballot_good : (plan : CorePlanState) (second me : ℕ) → IsGood image s (ballot_row plan second me s)
  unfolding ballot_row
  ballot_good plan second me = record { fact = try_good.fact; well = try_good.well }

  pub receive_good : (plan : CorePlanState) (second from : ℕ) (m : SynodMessage) → OfBallot m → IsGood image s (receive_row plan second from m s)
  unfolding receive_row receive
  receive_good plan second from (message.NextBallot b) is = let good = next_good b is in record { fact = good.fact; well = good.well }
  receive_good plan second from (message.LastVote l) is = let good = last_good from l.ballot l.vote in record { fact = good.fact; well = good.well }
  receive_good plan second from (message.BeginBallot b d) is = let good = begin_good b d is in record { fact = good.fact; well = good.well }
  receive_good plan second from (message.Voted b) is = let good = voted_good from b in record { fact = good.fact; well = good.well }
  receive_good plan second from (message.Success d) is = let good = success_good d in record { fact = good.fact; well = good.well }

  pub tell_good : (plan : CorePlanState) (second me : ℕ) → IsGood image s (tell_row plan second me s)
  unfolding tell_row
  tell_good plan second me = record { fact = tt; well = well }

  pub respond_good : (held : Roots) (start second : ℕ) → IsGood image s (respond_row image held start second s)
  unfolding respond_row
  respond_good held start second = by s.sealed (first_missing held start second) (held second)
    where
      by : (sealed : Option (List Entry)) (missing : Option ℕ) (root : Option (List ℕ)) → IsGood image s (respond_where image held start second sealed missing root s)
      by None missing root = still_good _ refl refl
      by (Some entries) (Some missing) root = still_good _ refl refl
      by (Some entries) None None = still_good _ refl refl
      by (Some entries) None (Some root) = cond_both (is_mine image entries root) _ _ (λ (turn : Turn). IsGood image s turn) (λ _. still_good _ refl refl) (λ _. still_good _ refl refl)
