-- A whole ballot, delivered: every core holds a root.
use Rattle.std.proofs.Common.{arith, ◌≡◌, ℕ, ◌+◌, ◌<◌, true, false, List, [], ◌∷◌, ◌++◌, length, map, refl, sym, ap, subst, ◌∙◌, length-append, inl, inr, Option, Some, None}
use Rattle.std.specs.Prelude.{slice_get, unwrap_or}
use Rattle.std.proofs.lemmas.Bool.{cases_eq, cond-true, cond_both}
use Rattle.std.proofs.lemmas.List.{append-nil, length-map, length-replicate}
use Rattle.ksi_synod.specs.declared.messages.SynodMessage.{SynodMessage}
use Rattle.ksi_synod.specs.declared.messages.SynodMessage.TheVariants as message
use Rattle.ksi_synod.specs.Voters.{cores_below, is_voter, is_flagged, is_majority}
use Rattle.ksi_synod.specs.VoteState.{VoteState, Hand, new_hand}
use Rattle.ksi_synod.specs.Rows.{is_older, receive}
use Rattle.ksi_laws_progress.specs.Numbers.{numbers_from, numbers_to, place_in, ballot_numbers}
use Rattle.ksi_laws_progress.specs.Majorities.{AreDistinct, IsLeast, greatest_from, root_by}
use Rattle.ksi_laws_progress.proofs.Lists.{there, AreMost, no_majority, no_flag, get_behind, get_mapped, is_below, below_distinct, many_below}
use Rattle.ksi_laws_progress.proofs.Rows.{promises, casts, learns}
use Rattle.ksi_laws_progress.proofs.Machine.{Takes, deliver_all, deliver_append, AtFrom, at_behind, all_told, replies, Told}
use Rattle.ksi_laws_progress.proofs.Gathering.{OfVote, open_first, Begun, early, Decided, decides}

module _ (M Msg : Type 0) (votes : M → ℕ → VoteState) (wire : M → List Msg) (letter : (from to : ℕ) → SynodMessage → Msg) (deliver : M → ℕ → M) (voters : List ℕ) (cores : ℕ)
    (takes : Takes M Msg votes wire letter deliver voters cores) (small : (q : ℕ) → is_voter voters q ≡ true → q < 9) (j b : ℕ) where
  abbrev Run : M → List ℕ → M
  Run = deliver_all M Msg votes wire letter deliver voters cores

  -- the posts of a message
  abbrev posts : (to : List ℕ) → SynodMessage → List Msg
  posts to what = map (λ to. letter j to what) to

  posted_at : (w before : List Msg) (first : ℕ) (to : List ℕ) (what : SynodMessage) → w ≡ before ++ posts to what → length before ≡ first →
      (q : ℕ) → is_voter to q ≡ true → slice_get w (first + place_in to q) ≡ Some (letter j q what)
  posted_at w before first to what is long q there =
      ap (λ w. slice_get w (first + place_in to q)) is ∙ get_behind before (posts to what) first (place_in to q) long ∙ get_mapped (λ to. letter j to what) to q there

  -- THE FIVE MESSAGES
  abbrev last_of : (vote : ℕ → VoteState) → ℕ → SynodMessage
  last_of states q = message.LastVote (record { ballot = b; vote = (states q).vote })

  abbrev promised_in : VoteState → VoteState
  promised_in s = record s { promised = b }

  abbrev last_by : VoteState → Option SynodMessage
  last_by s = Some (message.LastVote (record { ballot = b; vote = s.vote }))

  abbrev cast_in : List ℕ → VoteState → VoteState
  cast_in d s = record s { vote = Some (record { ballot = b; imprint = d }) }

  abbrev voted_by : VoteState → Option SynodMessage
  voted_by s = Some (message.Voted b)

  abbrev MayCast : VoteState → Type 0
  MayCast s = (s.promised ≡ b) × (is_older s.vote b ≡ true)

  abbrev held_after : List ℕ → VoteState → VoteState
  held_after d s = record s { held = Some (unwrap_or s.held d) }

  abbrev none_by : VoteState → Option SynodMessage
  none_by s = None

  abbrev Any : VoteState → Type 0
  Any s = Unit {0}

  promise_row : (s : VoteState) → s.promised < b → receive s j (message.NextBallot b) ≡ (promised_in s, last_by s)
  promise_row s lt = promises s j b lt

  cast_row : (d : List ℕ) (s : VoteState) → MayCast s → receive s j (message.BeginBallot b d) ≡ (cast_in d s, voted_by s)
  cast_row d s may = casts s j b d may.0 may.1

  hold_row : (d : List ℕ) (s : VoteState) → Any s → receive s j (message.Success d) ≡ (held_after d s, none_by s)
  hold_row d s may = learns s j d

  abbrev Promised : (first : ℕ) → M → M → List ℕ → Type 0
  Promised first = Told M Msg votes wire letter deliver voters cores takes j (message.NextBallot b) (λ q. first + place_in voters q) promised_in last_by (λ s. s.promised < b) promise_row

  abbrev last_posts : (first : ℕ) → M → List ℕ → List Msg
  last_posts first = replies M Msg votes wire letter deliver voters cores takes j (message.NextBallot b) (λ q. first + place_in voters q) promised_in last_by (λ s. s.promised < b) promise_row

  last_replies : (first : ℕ) (m : M) (qs : List ℕ) → last_posts first m qs ≡ map (λ q. letter q j (last_of (votes m) q)) qs
  last_replies first m [] = refl
  last_replies first m (q ∷ qs) = ap (λ more. letter q j (last_of (votes m) q) ∷ more) (last_replies first m qs)

  abbrev Cast : (first : ℕ) (d : List ℕ) → M → M → List ℕ → Type 0
  Cast first d = Told M Msg votes wire letter deliver voters cores takes j (message.BeginBallot b d) (λ q. first + place_in voters q) (cast_in d) voted_by MayCast (cast_row d)

  abbrev cast_posts : (first : ℕ) (d : List ℕ) → M → List ℕ → List Msg
  cast_posts first d = replies M Msg votes wire letter deliver voters cores takes j (message.BeginBallot b d) (λ q. first + place_in voters q) (cast_in d) voted_by MayCast (cast_row d)

  cast_replies : (first : ℕ) (d : List ℕ) (m : M) (qs : List ℕ) → cast_posts first d m qs ≡ map (λ q. letter q j (message.Voted b)) qs
  cast_replies first d m [] = refl
  cast_replies first d m (q ∷ qs) = ap (λ more. letter q j (message.Voted b) ∷ more) (cast_replies first d m qs)

  abbrev Learned : (first : ℕ) (d : List ℕ) → M → M → List ℕ → Type 0
  Learned first d = Told M Msg votes wire letter deliver voters cores takes j (message.Success d) (λ q. first + place_in (cores_below cores) q) (held_after d) none_by Any (hold_row d)

  -- the core tries the ballot, and these are a majority of voters that did not promise it or a later one
  pub record IsReady (Good : List ℕ → Type 0) (Q : List ℕ) (m : M) (first : ℕ) : Type 0 where
    pub most : AreMost voters Q
    pub distinct : AreDistinct Q
    pub vote_too : (q : ℕ) → is_voter Q q ≡ true → is_voter voters q ≡ true
    pub candidate : List ℕ
    pub is_good : Good candidate
    pub sealed : (votes m j).candidate ≡ Some candidate
    pub hand : (votes m j).hand ≡ Some (new_hand b)
    pub voters_are : (votes m j).voters ≡ voters
    pub behind : (q : ℕ) → is_voter Q q ≡ true → (votes m q).promised < b
    pub older : (q : ℕ) → is_voter Q q ≡ true → is_older (votes m q).vote b ≡ true
    pub likes : (q : ℕ) → is_voter Q q ≡ true → OfVote Good (votes m q).vote
    pub before : List Msg
    pub posted : wire m ≡ before ++ posts voters (message.NextBallot b)
    pub first_is : length before ≡ first

  -- a core holds what it held, or else the decree
  pub record AllHold (Good : List ℕ → Type 0) (Q : List ℕ) (c : List ℕ) (first : ℕ) (m m' : M) : Type 0 where
    pub decree : List ℕ
    pub is_good : Good decree
    pub each : (k : ℕ) → k < cores → (votes m' k).held ≡ Some (unwrap_or (votes m k).held decree)
    pub exact : AreDistinct voters → IsLeast voters Q → decree ≡ root_by (greatest_from (λ q. (votes m q).vote) None Q) c
    pub sent : length (wire m') ≡ first + length voters + length Q + length voters + length Q + cores

  abbrev no_posts : (first : ℕ) (d : List ℕ) → M → List ℕ → List Msg
  no_posts first d = replies M Msg votes wire letter deliver voters cores takes j (message.Success d) (λ q. first + place_in (cores_below cores) q) (held_after d) none_by Any (hold_row d)

  no_replies : (first : ℕ) (d : List ℕ) (m : M) (qs : List ℕ) → no_posts first d m qs ≡ []
  no_replies first d m [] = refl
  no_replies first d m (q ∷ qs) = no_replies first d m qs

  module _ (Good : List ℕ → Type 0) (Q : List ℕ) (m : M) (first : ℕ) (r : IsReady Good Q m first) where
    abbrev n : ℕ
    n = length voters

    abbrev k : ℕ
    k = length Q

    sums : {a b c d : ℕ} → a ≡ c → b ≡ d → a + b ≡ c + d
    sums {a} {b} {c} {d} is is' = ap (λ x. x + b) is ∙ ap (λ x. c + x) is'

    long_posts : (to : List ℕ) (what : SynodMessage) → length (posts to what) ≡ length to
    long_posts to what = length-map to (λ to. letter j to what)

    -- NEXTBALLOT
    abbrev mA : M
    mA = Run m (numbers_to first voters Q)

    A : Promised first m mA Q
    A = all_told M Msg votes wire letter deliver voters cores takes j (message.NextBallot b) (λ q. first + place_in voters q) promised_in last_by (λ s. s.promised < b) promise_row Q m r.distinct r.behind
        (λ q is. posted_at (wire m) r.before first voters (message.NextBallot b) r.posted r.first_is q (r.vote_too q is))

    A-keeps : {X : Type 0} (f : VoteState → X) → ((s : VoteState) → f (promised_in s) ≡ f s) → (q : ℕ) → f (votes mA q) ≡ f (votes m q)
    A-keeps f same q = ap f (A.state q) ∙ cond_both (is_voter Q q) (promised_in (votes m q)) (votes m q) (λ s. f s ≡ f (votes m q)) (λ _. same (votes m q)) (λ _. refl)

    long_m : length (wire m) ≡ first + n
    long_m = ap length r.posted ∙ length-append r.before (posts voters (message.NextBallot b)) ∙ sums r.first_is (long_posts voters (message.NextBallot b))

    wire_A : wire mA ≡ wire m ++ map (λ q. letter q j (last_of (votes m) q)) Q
    wire_A = A.posted ∙ ap (λ more. wire m ++ more) (last_replies first m Q)

    -- LASTVOTE
    abbrev mB : M
    mB = Run mA (numbers_from (first + n) k)

    B : Begun M Msg votes wire letter deliver voters cores takes small j b (λ q. (votes m q).vote) Good r.candidate r.is_good Q r.most mA mB
    B = early M Msg votes wire letter deliver voters cores takes small j b (λ q. (votes m q).vote) Good r.candidate r.is_good Q r.most Q [] mA (first + n) (new_hand b)
        (record {
          told = refl;
          long = omega arith;
          hand = A-keeps (λ s. s.hand) (λ s. refl) j ∙ r.hand;
          voters_are = A-keeps (λ s. s.voters) (λ s. refl) j ∙ r.voters_are;
          candidate = A-keeps (λ s. s.candidate) (λ s. refl) j ∙ r.sealed;
          is_open = open_first M Msg votes wire letter deliver voters cores takes small j b (λ q. (votes m q).vote) Good r.candidate r.is_good Q r.most;
        })
        (record {
          distinct = r.distinct;
          fresh = λ q is. refl;
          vote_too = r.vote_too;
          likes = r.likes;
          all = λ q is. is;
          at = subst (λ w. AtFrom M Msg votes wire letter deliver voters cores takes j (last_of (votes m)) w (first + n) Q) (sym wire_A)
              (at_behind M Msg votes wire letter deliver voters cores takes j (last_of (votes m)) (wire m) (first + n) Q long_m);
        })

    B-keeps : {X : Type 0} (f : VoteState → X) → ((s : VoteState) (h : Option Hand) → f (record s { hand = h }) ≡ f s) → (q : ℕ) → f (votes mB q) ≡ f (votes mA q)
    B-keeps f same q = elim (cases_eq q j) [
      | inl is ↦ subst (λ q. f (votes mB q) ≡ f (votes mA q)) (sym is) (ap f B.mine ∙ same (votes mA j) (Some B.hand))
      | inr other ↦ ap f (B.others q other)
    ]

    long_A : length (wire mA) ≡ first + n + k
    long_A = ap length wire_A ∙ length-append (wire m) (map (λ q. letter q j (last_of (votes m) q)) Q) ∙ sums long_m (length-map Q (λ q. letter q j (last_of (votes m) q)))

    -- BEGINBALLOT
    abbrev mC : M
    mC = Run mB (numbers_to (first + n + k) voters Q)

    promised_A : (q : ℕ) → is_voter Q q ≡ true → (votes mA q).promised ≡ b
    promised_A q is = ap (λ s. s.promised) (A.state q ∙ cond-true (is_voter Q q) (promised_in (votes m q)) (votes m q) is)

    C : Cast (first + n + k) B.decree mB mC Q
    C = all_told M Msg votes wire letter deliver voters cores takes j (message.BeginBallot b B.decree) (λ q. first + n + k + place_in voters q) (cast_in B.decree) voted_by MayCast (cast_row B.decree) Q mB r.distinct
        (λ q is. (
          B-keeps (λ s. s.promised) (λ s h. refl) q ∙ promised_A q is,
          ap (λ v. is_older v b) (B-keeps (λ s. s.vote) (λ s h. refl) q ∙ A-keeps (λ s. s.vote) (λ s. refl) q) ∙ r.older q is,
        ))
        (λ q is. posted_at (wire mB) (wire mA) (first + n + k) voters (message.BeginBallot b B.decree) B.posted long_A q (r.vote_too q is))

    C-keeps : {X : Type 0} (f : VoteState → X) → ((s : VoteState) → f (cast_in B.decree s) ≡ f s) → (q : ℕ) → f (votes mC q) ≡ f (votes mB q)
    C-keeps f same q = ap f (C.state q) ∙ cond_both (is_voter Q q) (cast_in B.decree (votes mB q)) (votes mB q) (λ s. f s ≡ f (votes mB q)) (λ _. same (votes mB q)) (λ _. refl)

    long_B : length (wire mB) ≡ first + n + k + n
    long_B = ap length B.posted ∙ length-append (wire mA) (posts voters (message.BeginBallot b B.decree)) ∙ sums long_A (long_posts voters (message.BeginBallot b B.decree))

    wire_C : wire mC ≡ wire mB ++ map (λ q. letter q j (message.Voted b)) Q
    wire_C = C.posted ∙ ap (λ more. wire mB ++ more) (cast_replies (first + n + k) B.decree mB Q)

    -- VOTED
    abbrev mD : M
    mD = Run mC (numbers_from (first + n + k + n) k)

    D : Decided M Msg votes wire letter deliver voters cores takes small j b B.decree mC mD
    D = decides M Msg votes wire letter deliver voters cores takes small j b B.decree Q r.most Q [] mC (first + n + k + n) B.hand
        (ap (is_majority voters) B.none_yet ∙ no_majority voters)
        (λ q is. is)
        (record {
          hand = C-keeps (λ s. s.hand) (λ s. refl) j ∙ ap (λ s. s.hand) B.mine;
          voters_are = C-keeps (λ s. s.voters) (λ s. refl) j ∙ B-keeps (λ s. s.voters) (λ s h. refl) j ∙ A-keeps (λ s. s.voters) (λ s. refl) j ∙ r.voters_are;
          ballot_is = B.ballot_is;
          decree_is = B.decree_is;
          nine = ap length B.none_yet ∙ length-replicate 9 false;
          voted_is = λ q. ap (λ flags. is_flagged flags q) B.none_yet ∙ no_flag q;
        })
        (record {
          distinct = r.distinct;
          fresh = λ q is. refl;
          vote_too = r.vote_too;
          at = subst (λ w. AtFrom M Msg votes wire letter deliver voters cores takes j (λ q. message.Voted b) w (first + n + k + n) Q) (sym wire_C)
              (at_behind M Msg votes wire letter deliver voters cores takes j (λ q. message.Voted b) (wire mB) (first + n + k + n) Q long_B);
        })

    long_C : length (wire mC) ≡ first + n + k + n + k
    long_C = ap length wire_C ∙ length-append (wire mB) (map (λ q. letter q j (message.Voted b)) Q) ∙ sums long_B (length-map Q (λ q. letter q j (message.Voted b)))

    -- SUCCESS
    abbrev mE : M
    mE = Run mD (numbers_to (first + n + k + n + k) (cores_below cores) (cores_below cores))

    E : Learned (first + n + k + n + k) B.decree mD mE (cores_below cores)
    E = all_told M Msg votes wire letter deliver voters cores takes j (message.Success B.decree) (λ q. first + n + k + n + k + place_in (cores_below cores) q) (held_after B.decree) none_by Any (hold_row B.decree) (cores_below cores) mD (below_distinct cores)
        (λ q is. tt)
        (λ q is. posted_at (wire mD) (wire mC) (first + n + k + n + k) (cores_below cores) (message.Success B.decree) D.posted long_C q is)

    held_C : (q : ℕ) → (votes mC q).held ≡ (votes m q).held
    held_C q = C-keeps (λ s. s.held) (λ s. refl) q ∙ B-keeps (λ s. s.held) (λ s h. refl) q ∙ A-keeps (λ s. s.held) (λ s. refl) q

    held_D : (q : ℕ) → Some (unwrap_or (votes mD q).held B.decree) ≡ Some (unwrap_or (votes m q).held B.decree)
    held_D q = elim (cases_eq q j) [
      | inl is ↦ subst (λ q. Some (unwrap_or (votes mD q).held B.decree) ≡ Some (unwrap_or (votes m q).held B.decree)) (sym is)
          (ap (λ o. Some (unwrap_or o B.decree)) D.held ∙ ap (λ o. Some (unwrap_or o B.decree)) (held_C j))
      | inr other ↦ ap (λ (s : VoteState). Some (unwrap_or s.held B.decree)) (D.others q other) ∙ ap (λ o. Some (unwrap_or o B.decree)) (held_C q)
    ]

    long_D : length (wire mD) ≡ first + n + k + n + k + cores
    long_D = ap length D.posted ∙ length-append (wire mC) (posts (cores_below cores) (message.Success B.decree)) ∙ sums long_C (long_posts (cores_below cores) (message.Success B.decree) ∙ many_below cores)

    all_hold : AllHold Good Q r.candidate first m mE
    all_hold = record {
      decree = B.decree;
      is_good = B.is_good;
      each = λ q lt. ap (λ s. s.held) (E.state q ∙ cond-true (is_voter (cores_below cores) q) (held_after B.decree (votes mD q)) (votes mD q) (is_below cores q lt)) ∙ held_D q;
      exact = B.exact;
      sent = ap length (E.posted ∙ ap (λ more. wire mD ++ more) (no_replies (first + n + k + n + k) B.decree mD (cores_below cores)) ∙ append-nil (wire mD)) ∙ long_D;
    }

    -- THE BALLOT
    pub ballot_decides : AllHold Good Q r.candidate first m (Run m (ballot_numbers first voters Q cores))
    ballot_decides = subst (AllHold Good Q r.candidate first m) (sym (parts)) all_hold
      where
        cut : (m : M) (xs ys : List ℕ) → Run m (xs ++ ys) ≡ Run (Run m xs) ys
        cut = deliver_append M Msg votes wire letter deliver voters cores

        parts : Run m (ballot_numbers first voters Q cores) ≡ mE
        parts =
            cut m (numbers_to first voters Q) _
            ∙ cut mA (numbers_from (first + n) k) _
            ∙ cut mB (numbers_to (first + n + k) voters Q) _
            ∙ cut mC (numbers_from (first + n + k + n) k) (numbers_to (first + n + k + n + k) (cores_below cores) (cores_below cores))
