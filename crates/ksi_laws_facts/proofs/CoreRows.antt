-- Each step of a core is what is seen of it.
use Rattle.std.proofs.Common.{◌<◌, length, ◌≡◌, ℕ, ◌<◌, ◌≤◌, Bool, true, false, is_some, ◌&&◌, eqb, ltb, List, [], ◌∷◌, ◌++◌, map, suc, zero, refl, sym, ap, subst, ◌∙◌, arith, inl, inr, Option, Some, None}
use Rattle.std.specs.Prelude.{option_map, unwrap_or}
use Rattle.std.proofs.Math.Nat.{max-eq_left}
use Rattle.std.proofs.lemmas.Bool.{cond_both, cases_lt, cond-true, and_parts, ltb-true}
use Rattle.std.proofs.lemmas.List.{get_or-replicate, get_or_past, length-replicate}
use Rattle.ksi_aggtree.specs.declared.item.Item.{Item}
use Rattle.ksi_aggtree.specs.declared.entries.Entry.{Entry}
use Rattle.ksi_aggtree.specs.Entries.{candidate_of, has_from, is_full}
use Rattle.ksi_synod.specs.declared.messages.Vote.{Vote}
use Rattle.ksi_synod.specs.declared.messages.LastVote.{LastVote}
use Rattle.ksi_synod.specs.declared.messages.SynodMessage.{SynodMessage}
use Rattle.ksi_synod.specs.declared.messages.SynodMessage.TheVariants as votes
use Rattle.ksi_synod.specs.declared.messages.Begun.{Begun}
use Rattle.ksi_synod.specs.declared.messages.Took.{Took}
use Rattle.ksi_synod.specs.declared.messages.Took.TheVariants.{Decree}
use Rattle.ksi_synod.specs.CorePlans.{CorePlanState, voters_of}
use Rattle.ksi_synod.specs.Voters.{cores_below, is_voter, is_flagged, no_flags}
use Rattle.ksi_synod.specs.Ballots.{last_round}
use Rattle.ksi_synod.specs.VoteState.{VoteState, Hand, new_hand}
use Rattle.ksi_synod.specs.Rows.{seal, seal_of, try_ballot, try_ballot_of, greater_round, next_ballot, ballot_told, on_next, on_last, on_last_of, counts_last, greater_vote, is_older, on_begin, voted_for, with_voted, completes, on_voted, on_voted_of, on_voted_for, decree_told, on_success, on_success_of, receive}
use Rattle.ksi_signature.specs.declared.answer.Answer.{Answer}
use Rattle.ksi_corenode.specs.SecondState.{SecondState}
use Rattle.ksi_corenode.specs.Turns.{Turn, told, to_each}
use Rattle.ksi_calendar.specs.Covered.{Roots, first_missing}
use Rattle.ksi_corenode.specs.Rows.{submitted, submission_row, item_taken, seal_row, sealed_now, ballot_row, receive_row, news_answer, tell_row, respond_row, respond_where, is_mine, restart_row}
use Rattle.ksi_schedule.specs.declared.actor.Actor.TheVariants as actors
use Rattle.ksi_world.specs.declared.message.Content.TheVariants as contents
use Rattle.ksi_world.specs.Histories.{core_message}
use Rattle.ksi_laws_facts.specs.Deeds.{Act, Deed, Accepted, Sealed, Tried, Promised, Cast, Holds, Heard, Restarted, facts_of, held_root, where_done, first, tries, decides, takes}
use Rattle.ksi_laws_facts.specs.Since.{Since, Reply, with_reply, since}
use Rattle.ksi_laws_facts.proofs.Standing.{IsHandSo, IsInHandSo, IsSo, did}
use Rattle.ksi_laws_facts.proofs.Hands.{last_idle, last_counted, voted_idle, voted_counted}

-- WHAT IS SENT TO ALL

first_core : (n : ℕ) → 1 ≤ n → (core : ℕ) × (others : List ℕ) × (cores_below n ≡ core ∷ others)
first_core zero some = absurd (omega (arith, some))
first_core (suc zero) some = (0, [], refl)
first_core (suc (suc n)) some = let before = first_core (suc n) (omega arith) in (before.0, before.1 ++ suc n ∷ [], ap (λ (xs : List ℕ). xs ++ suc n ∷ []) before.2)

pub ballot_asked : (to : List ℕ) (i t b : ℕ) → 0 < length to → tries (first (map (core_message i t) (to_each to (votes.NextBallot b)))) ≡ Tried b ∷ []
ballot_asked [] i t b some = absurd (omega (arith, some))
ballot_asked (core ∷ others) i t b some = refl

-- a root that is held where nothing was
abbrev pub held_now : (root : List ℕ) → (held : Option (List ℕ)) → List Act
held_now root None = Holds root ∷ []
held_now root (Some held) = []

pub root_sent : (n i t : ℕ) (d : List ℕ) (held : Option (List ℕ)) → 1 ≤ n → decides (first (map (core_message i t) (to_each (cores_below n) (votes.Success d)))) held ≡ held_now d held
root_sent n i t d held some = ap (λ (cores : List ℕ). decides (first (map (core_message i t) (to_each cores (votes.Success d)))) held) (first_core n some).2 ∙ by held
  where
    by : (held : Option (List ℕ)) → decides (Some (contents.Synod (votes.Success d))) held ≡ held_now d held
    by None = refl
    by (Some root) = refl

-- A HAND

no_flag : (y : ℕ) → is_flagged no_flags y ≡ false
no_flag y = elim (cases_lt y 9) [ inl lt ↦ get_or-replicate 9 y false false lt | inr ge ↦ get_or_past no_flags y false (omega (arith, ge, length-replicate 9 false)) ]

fresh_hand : (voters : List ℕ) (candidate : Option (List ℕ)) (own : List ℕ) → candidate ≡ Some own → (b : ℕ) → IsHandSo voters candidate (record { ballot = b; heard = [] }) (new_hand b)
fresh_hand voters candidate own sealed b = record {
  is = record { ballot = refl; last = no_flag; greatest = refl; decree = refl; voted = no_flag; last_flags = length-replicate 9 false; voted_flags = length-replicate 9 false };
  own = own;
  sealed = sealed;
}

in_hand : (voters : List ℕ) (candidate : Option (List ℕ)) (sn : Option Since) (h : Hand) → IsInHandSo voters candidate sn (Some h) → (s : Since) × (sn ≡ Some s) × IsHandSo voters candidate s h
in_hand voters candidate None h so = absurd so
in_hand voters candidate (Some s) h so = (s, refl, so)

no_hand : (voters : List ℕ) (candidate : Option (List ℕ)) (sn : Option Since) → IsInHandSo voters candidate sn None → sn ≡ None
no_hand voters candidate None so = refl
no_hand voters candidate (Some s) so = absurd so

-- ONE DEED MORE

module _ (image : List ℕ → List ℕ) (voters : List ℕ) {me : ℕ} (small : (y : ℕ) → is_voter voters y ≡ true → y < 9) (t : ℕ) (ds : List Deed) (s : SecondState) (so : IsSo image voters me ds s) where
  abbrev After : List Act → SecondState → Type 0
  After whats s' = IsSo image voters me (did t whats ++ ds) s'

  none_is : (o : Option (List Entry)) → is_some o ≡ false → o ≡ None
  none_is None e = refl
  none_is (Some x) e = absurd (cc e)

  -- SUBMISSION

  pub submission_so : (from : ℕ) (item : Item) → After (where_done (submission_row from item s).answer (Accepted (submitted from item))) (submission_row from item s).after
  unfolding submission_row
  submission_so from item =
      cond_both (is_some s.sealed) _ _ P (λ _. so)
      (λ none. cond_both (has_from from s.open_items) _ _ Q (λ _. so)
      (λ _. cond_both (is_full s.open_items) _ _ Q (λ _. so)
      (λ _. record {
        shut = λ items is. let unsealed = none_is s.sealed none in absurd (cc (unsealed, is));
        kept = record { sealed = so.kept.sealed; candidate = so.kept.candidate; tried = so.kept.tried; promised = so.kept.promised; vote = so.kept.vote; held = so.kept.held };
        open_is = ap (λ (es : List Entry). es ++ submitted from item ∷ []) so.open_is;
        voters_are = so.voters_are;
        me_is = so.me_is;
        hand = so.hand;
      })))
    where
      P : Turn → Type 0
      P turn = After (where_done turn.answer (Accepted (submitted from item))) turn.after

      Q : List Entry × Answer → Type 0
      Q row = P (item_taken s row)

  -- SEAL

  no_candidate : s.sealed ≡ None → s.vote.candidate ≡ None
  no_candidate none = so.kept.candidate ∙ ap (option_map (candidate_of image)) (sym so.kept.sealed ∙ none)

  module _ (items : List Entry) (open_is : s.open_items ≡ items) where
    abbrev Sealing : Turn → Type 0
    Sealing turn = After (where_done turn.answer (Sealed items)) turn.after

    now_sealed : s.sealed ≡ None → Sealing (sealed_now image s)
    unfolding seal
    now_sealed none = subst (λ (o : Option (List ℕ)). After (Sealed items ∷ []) (record { vote = seal_of o s.vote (candidate_of image s.open_items); open_items = []; sealed = Some s.open_items }))
        (sym (no_candidate none)) (record {
          kept = record { sealed = ap (λ (es : List Entry). Some es) open_is; candidate = ap (λ (es : List Entry). Some (candidate_of image es)) open_is; tried = so.kept.tried; promised = so.kept.promised; vote = so.kept.vote; held = so.kept.held };
          open_is = refl;
          shut = λ items is. refl;
          voters_are = so.voters_are;
          me_is = so.me_is;
          hand = by (since ds) s.vote.hand so.hand;
        })
      where
        by : (o : Option Since) (h : Option Hand) → IsInHandSo s.vote.voters s.vote.candidate o h → IsInHandSo s.vote.voters (Some (candidate_of image s.open_items)) o h
        by None None has = tt
        by None (Some h) has = has
        by (Some x) None has = has
        by (Some x) (Some h) has = let own = has.sealed in let candidate = no_candidate none in absurd (cc (own, candidate))

    pub seal_so : Sealing (seal_row image s)
    unfolding seal_row
    seal_so = cond_both (is_some s.sealed) _ _ Sealing (λ _. so) (λ none. now_sealed (none_is s.sealed none))

  -- TELL, RESPOND AND RESTART

  pub tell_so : (core_plan : CorePlanState) (t i : ℕ) → IsSo image voters me ds (tell_row core_plan t i s).after
  unfolding tell_row
  tell_so core_plan t i = so

  pub respond_so : (held : Roots) (start t : ℕ) → IsSo image voters me ds (respond_row image held start t s).after
  unfolding respond_row
  respond_so held start t = by s.sealed (first_missing held start t) (held t)
    where
      P : Turn → Type 0
      P turn = IsSo image voters me ds turn.after

      by : (items : Option (List Entry)) (missing : Option ℕ) (root : Option (List ℕ)) → P (respond_where image held start t items missing root s)
      by None missing root = so
      by (Some items) (Some u) root = so
      by (Some items) None None = so
      by (Some items) None (Some root) = cond_both (is_mine image items root) _ _ P (λ _. so) (λ _. so)

  pub restart_so : IsSo image voters me (Restarted ∷ ds) (restart_row s)
  restart_so = record {
    kept = record { sealed = so.kept.sealed; candidate = so.kept.candidate; tried = so.kept.tried; promised = so.kept.promised; vote = so.kept.vote; held = so.kept.held };
    open_is = refl;
    shut = λ items is. refl;
    voters_are = so.voters_are;
    me_is = so.me_is;
    hand = tt;
  }

  -- BALLOT

  module _ (core_plan : CorePlanState) (i : ℕ) (some : 0 < length (voters_of core_plan t)) where
    abbrev Trying : VoteState × Begun → Type 0
    Trying r = After (tries (first (map (core_message i t) (told core_plan t i (ballot_told r.1))))) (record s { vote = r.0 })

    trying : (candidate : Option (List ℕ)) → s.vote.candidate ≡ candidate → Trying (try_ballot_of candidate s.vote)
    trying None is = so
    trying (Some own) is = cond_both (eqb (greater_round s.vote) last_round) _ _ Trying (λ _. so)
        (λ _. subst (λ (whats : List Act). After whats (record s { vote = record s.vote { tried = next_ballot s.vote; hand = Some (new_hand (next_ballot s.vote)) } })) (sym (ballot_asked (voters_of core_plan t) i t (next_ballot s.vote) some)) (record {
          kept = record { sealed = so.kept.sealed; candidate = so.kept.candidate; tried = refl; promised = so.kept.promised; vote = so.kept.vote; held = so.kept.held };
          open_is = so.open_is;
          shut = so.shut;
          voters_are = so.voters_are;
          me_is = so.me_is;
          hand = fresh_hand s.vote.voters s.vote.candidate own is (next_ballot s.vote);
        }))

    pub ballot_so : After (tries (first (map (core_message i t) (ballot_row core_plan t i s).sends))) (ballot_row core_plan t i s).after
    unfolding ballot_row try_ballot
    ballot_so = trying s.vote.candidate refl

  -- THE MESSAGES OF THE VOTE

  small_here : (y : ℕ) → is_voter s.vote.voters y ≡ true → y < 9
  small_here y e = small y (ap (λ (vs : List ℕ). is_voter vs y) (sym so.voters_are) ∙ e)

  abbrev Takes : List Act → VoteState → Type 0
  Takes whats vote = After whats (record s { vote = vote })

  next_so : (b : ℕ) → Takes (where_done (news_answer (is_some (on_next s.vote b).1)) (Promised b)) (on_next s.vote b).0
  unfolding on_next
  next_so b = cond_both (ltb s.vote.promised b) _ _ P
      (λ lt. record {
        kept = record { sealed = so.kept.sealed; candidate = so.kept.candidate; tried = so.kept.tried; promised = sym (max-eq_left (let below = ltb-true _ _ lt in let is = so.kept.promised in omega (arith, below, is))); vote = so.kept.vote; held = so.kept.held };
        open_is = so.open_is;
        shut = so.shut;
        voters_are = so.voters_are;
        me_is = so.me_is;
        hand = so.hand;
      })
      (λ _. so)
    where
      P : VoteState × Option LastVote → Type 0
      P r = Takes (where_done (news_answer (is_some r.1)) (Promised b)) r.0

  begin_so : (b : ℕ) (d : List ℕ) → Takes (where_done (news_answer (on_begin s.vote b d).1) (Cast (record { ballot = b; imprint = d }))) (on_begin s.vote b d).0
  unfolding on_begin
  begin_so b d = cond_both (eqb b s.vote.promised && is_older s.vote.vote b) _ _ P
      (λ met. record {
        kept = record {
          sealed = so.kept.sealed;
          candidate = so.kept.candidate;
          tried = so.kept.tried;
          promised = so.kept.promised;
          vote = greater s.vote.vote (and_parts _ _ met).1 ∙ ap (λ (o : Option Vote). greater_vote o (Some (record { ballot = b; imprint = d }))) so.kept.vote;
          held = so.kept.held;
        };
        open_is = so.open_is;
        shut = so.shut;
        voters_are = so.voters_are;
        me_is = so.me_is;
        hand = so.hand;
      })
      (λ _. so)
    where
      P : VoteState × Bool → Type 0
      P r = Takes (where_done (news_answer r.1) (Cast (record { ballot = b; imprint = d }))) r.0

      greater : (o : Option Vote) → is_older o b ≡ true → Some (record { ballot = b; imprint = d }) ≡ greater_vote o (Some (record { ballot = b; imprint = d }))
      greater None older = refl
      greater (Some v) older = sym (cond-true (ltb v.ballot b) (Some (record { ballot = b; imprint = d })) (Some v) older)

  success_so : (d : List ℕ) → Takes (where_done (news_answer (on_success s.vote d).1) (Holds d)) (on_success s.vote d).0
  unfolding on_success
  success_so d = by s.vote.held
    where
      by : (o : Option (List ℕ)) → Takes (where_done (news_answer (on_success_of o s.vote d).1) (Holds d)) (on_success_of o s.vote d).0
      by None = record {
        kept = record { sealed = so.kept.sealed; candidate = so.kept.candidate; tried = so.kept.tried; promised = so.kept.promised; vote = so.kept.vote; held = refl };
        open_is = so.open_is;
        shut = so.shut;
        voters_are = so.voters_are;
        me_is = so.me_is;
        hand = so.hand;
      }
      by (Some held) = so

  -- A REPLY

  module _ (from : ℕ) (m : SynodMessage) where
    abbrev reply : Reply
    reply = record { from = from; what = m }

    abbrev Hears : Option Hand → Type 0
    Hears h = IsInHandSo s.vote.voters s.vote.candidate (option_map (with_reply reply) (since ds)) h

    -- with this hand
    taken_so : (new : Hand) → Hears (Some new) → Takes (Heard from m ∷ []) (record s.vote { hand = Some new })
    taken_so new has = record {
      kept = record { sealed = so.kept.sealed; candidate = so.kept.candidate; tried = so.kept.tried; promised = so.kept.promised; vote = so.kept.vote; held = so.kept.held };
      open_is = so.open_is;
      shut = so.shut;
      voters_are = so.voters_are;
      me_is = so.me_is;
      hand = has;
    }

    idle_so : Hears s.vote.hand → Takes (Heard from m ∷ []) s.vote
    idle_so has = record { kept = so.kept; open_is = so.open_is; shut = so.shut; voters_are = so.voters_are; me_is = so.me_is; hand = has }

    -- no hand hears nothing
    unheard : s.vote.hand ≡ None → Hears s.vote.hand
    unheard none =
        let was : IsInHandSo s.vote.voters s.vote.candidate (since ds) None = subst (λ (o : Option Hand). IsInHandSo s.vote.voters s.vote.candidate (since ds) o) none so.hand in
        let empty = no_hand s.vote.voters s.vote.candidate (since ds) was in
        subst Hears (sym none) (subst (λ (o : Option Since). IsInHandSo s.vote.voters s.vote.candidate (option_map (with_reply reply) o) None) (sym empty) tt)

    -- a hand hears it
    heard_by : (hand new : Hand) → s.vote.hand ≡ Some hand
        → ((sn : Since) → IsHandSo s.vote.voters s.vote.candidate sn hand → IsHandSo s.vote.voters s.vote.candidate (with_reply reply sn) new) → Hears (Some new)
    heard_by hand new is hears =
        let has = in_hand s.vote.voters s.vote.candidate (since ds) hand (subst (λ (o : Option Hand). IsInHandSo s.vote.voters s.vote.candidate (since ds) o) is so.hand) in
        subst (λ (o : Option Since). IsInHandSo s.vote.voters s.vote.candidate (option_map (with_reply reply) o) (Some new)) (sym has.1) (hears has.0 has.2)

  last_so : (from : ℕ) (l : LastVote) → Takes (Heard from (votes.LastVote l) ∷ []) (on_last s.vote from l.ballot l.vote).0
  unfolding on_last
  last_so from l = by s.vote.hand refl
    where
      P : VoteState × Took → Type 0
      P r = Takes (Heard from (votes.LastVote l) ∷ []) r.0

      by : (o : Option Hand) → s.vote.hand ≡ o → P (on_last_of o s.vote from l.ballot l.vote)
      by None is = idle_so from (votes.LastVote l) (unheard from (votes.LastVote l) is)
      by (Some h) is = cond_both (counts_last s.vote.voters (Some h) from l.ballot) _ _ P
          (λ met. taken_so from (votes.LastVote l) _ (heard_by from (votes.LastVote l) h _ is (λ sn has. last_counted s.vote.voters small_here s.vote.candidate sn h has from l met)))
          (λ unmet. idle_so from (votes.LastVote l) (subst (Hears from (votes.LastVote l)) (sym is)
          (heard_by from (votes.LastVote l) h h is (λ sn has. last_idle s.vote.voters small_here s.vote.candidate sn h has from l unmet))))

  module _ (core_plan : CorePlanState) (i : ℕ) (some : 1 ≤ core_plan.cores) where
    voted_so : (from b : ℕ) → Takes (Heard from (votes.Voted b) ∷ decides (first (map (core_message i t) (told core_plan t from (decree_told (on_voted s.vote from b).1)))) (held_root (facts_of ds))) (on_voted s.vote from b).0
    unfolding on_voted
    voted_so from b = by s.vote.hand refl
      where
        P : VoteState × Took → Type 0
        P r = Takes (Heard from (votes.Voted b) ∷ decides (first (map (core_message i t) (told core_plan t from (decree_told r.1)))) (held_root (facts_of ds))) r.0

        holds : (h : Hand) (d : List ℕ) → Hears from (votes.Voted b) (Some h) → (held : Option (List ℕ)) → s.vote.held ≡ held
            → Takes (Heard from (votes.Voted b) ∷ held_now d held) (record s.vote { held = Some (unwrap_or held d); hand = Some h })
        holds h d has None is = record {
          kept = record { sealed = so.kept.sealed; candidate = so.kept.candidate; tried = so.kept.tried; promised = so.kept.promised; vote = so.kept.vote; held = refl };
          open_is = so.open_is;
          shut = so.shut;
          voters_are = so.voters_are;
          me_is = so.me_is;
          hand = has;
        }
        holds h d has (Some root) is = record {
          kept = record { sealed = so.kept.sealed; candidate = so.kept.candidate; tried = so.kept.tried; promised = so.kept.promised; vote = so.kept.vote; held = sym is ∙ so.kept.held };
          open_is = so.open_is;
          shut = so.shut;
          voters_are = so.voters_are;
          me_is = so.me_is;
          hand = has;
        }

        decided : (h : Hand) (d : List ℕ) → Hears from (votes.Voted b) (Some h) → P (record s.vote { held = Some (unwrap_or s.vote.held d); hand = Some h }, Decree d)
        decided h d has =
            subst (λ (whats : List Act). Takes (Heard from (votes.Voted b) ∷ whats) (record s.vote { held = Some (unwrap_or s.vote.held d); hand = Some h })) (sym (root_sent core_plan.cores i t d (held_root (facts_of ds)) some))
            (subst (λ (o : Option (List ℕ)). Takes (Heard from (votes.Voted b) ∷ held_now d o) (record s.vote { held = Some (unwrap_or s.vote.held d); hand = Some h })) so.kept.held
            (holds h d has s.vote.held refl))

        for_it : (h : Hand) → s.vote.hand ≡ Some h → (o : Option (List ℕ)) → voted_for s.vote.voters (Some h) from b ≡ o → P (on_voted_for o h s.vote from)
        for_it h is None e = idle_so from (votes.Voted b) (subst (Hears from (votes.Voted b)) (sym is)
            (heard_by from (votes.Voted b) h h is (λ sn has. voted_idle s.vote.voters small_here s.vote.candidate sn h has from b e)))
        for_it h is (Some d) e =
            let has = heard_by from (votes.Voted b) h (with_voted h from) is (λ sn has. voted_counted s.vote.voters small_here s.vote.candidate sn h has from b d e) in
            cond_both (completes s.vote.voters h (with_voted h from)) _ _ P
            (λ _. decided (with_voted h from) d has)
            (λ _. taken_so from (votes.Voted b) (with_voted h from) has)

        by : (o : Option Hand) → s.vote.hand ≡ o → P (on_voted_of o s.vote from b)
        by None is = idle_so from (votes.Voted b) (unheard from (votes.Voted b) is)
        by (Some h) is = for_it h is (voted_for s.vote.voters (Some h) from b) refl

    pub receive_so : (from : ℕ) (m : SynodMessage) → After (takes (actors.Core from) (contents.Synod m) (receive_row core_plan t from m s).answer (map (core_message i t) (receive_row core_plan t from m s).sends) (held_root (facts_of ds))) (receive_row core_plan t from m s).after
    unfolding receive_row receive
    receive_so from (votes.NextBallot b) = next_so b
    receive_so from (votes.LastVote l) = last_so from l
    receive_so from (votes.BeginBallot b d) = begin_so b d
    receive_so from (votes.Voted b) = voted_so from b
    receive_so from (votes.Success d) = success_so d
