-- A log is the text of its lines, and of no others.
use Rattle.std.proofs.Common.{◌≡◌, ◌≢◌, ℕ, ◌<◌, false, eqb, List, [], ◌∷◌, ◌++◌, length, refl, sym, ap, ◌∙◌, append_assoc, inl, inr, arith}
use Rattle.std.specs.List.{AllByRecursion, onto_first}
use Rattle.ksi_logblock.specs.Logs.{HasNoFeed, IsLogOf, LacksLast, lines_of, text_of}
use Rattle.ksi_logblock.proofs.Cases.{eq_cases}

abbrev Lines : Type 0
Lines = List (List ℕ)

other : (b : ℕ) → b ≢ 10 → eqb b 10 ≡ false
other b ne = elim (eq_cases b 10) [ inl same ↦ absurd (ne same.1) | inr differs ↦ differs.0 ]

-- ---- of no others

line_cut : (line rest : List ℕ) → HasNoFeed line → lines_of (line ++ 10 ∷ rest) ≡ line ∷ lines_of rest
line_cut [] rest free = refl
line_cut (b ∷ line) rest free = rw (other b free.0, line_cut line rest free.1) refl

last_line : (line : List ℕ) → 0 < length line → HasNoFeed line → lines_of line ≡ line ∷ []
last_line [] some free = absurd (omega arith)
last_line (b ∷ []) some free = rw (other b free.0) refl
last_line (b ∷ c ∷ line) some free = rw (other b free.0, last_line (c ∷ line) (omega arith) free.1) refl

text_cut : (lines : Lines) → AllByRecursion HasNoFeed lines → lines_of (text_of lines) ≡ lines
text_cut [] free = refl
text_cut (line ∷ lines) free = line_cut line (text_of lines) free.0 ∙ ap (λ (ls : Lines). line ∷ ls) (text_cut lines free.1)

lacking_cut : (front : Lines) (last : List ℕ) → AllByRecursion HasNoFeed (front ++ last ∷ []) → 0 < length last → lines_of (text_of front ++ last) ≡ front ++ last ∷ []
lacking_cut [] last free some = last_line last some free.0
lacking_cut (line ∷ front) last free some =
    ap lines_of (append_assoc line (10 ∷ text_of front) last)
    ∙ line_cut line (text_of front ++ last) free.0
    ∙ ap (λ (ls : Lines). line ∷ ls) (lacking_cut front last free.1 some)

pub is_alone : (log : List ℕ) (lines : Lines) → IsLogOf log lines → lines ≡ lines_of log
is_alone log lines is = elim is.text [
  | inl text ↦ sym (ap lines_of text ∙ text_cut lines is.free)
  | inr lacks ↦ lacks.split ∙ sym (ap lines_of lacks.text ∙ lacking_cut lacks.front lacks.last (rw (← lacks.split) is.free) lacks.some)
]

-- ---- of these

feed_before : (log : List ℕ) (lines : Lines) → IsLogOf log lines → IsLogOf (10 ∷ log) ([] ∷ lines)
feed_before log lines is = record {
  free = (tt, is.free);
  text = elim is.text [
    | inl text ↦ inl (ap (λ (bytes : List ℕ). 10 ∷ bytes) text)
    | inr lacks ↦ inr (record {
      front = [] ∷ lacks.front;
      last = lacks.last;
      split = ap (λ (ls : Lines). [] ∷ ls) lacks.split;
      some = lacks.some;
      text = ap (λ (bytes : List ℕ). 10 ∷ bytes) lacks.text;
    })
  ];
}

none_lacks : (log : List ℕ) → LacksLast log [] → ⊥
none_lacks log lacks = of lacks.front lacks.split
  where
    of : (front : Lines) → [] ≡ front ++ lacks.last ∷ [] → ⊥
    of [] e = cc
    of (line ∷ front) e = cc

lacks_before : (b : ℕ) (log line last : List ℕ) (lines front : Lines) → line ∷ lines ≡ front ++ last ∷ [] → 0 < length last → log ≡ text_of front ++ last → LacksLast (b ∷ log) ((b ∷ line) ∷ lines)
lacks_before b log line last lines [] e some text =
    let same : line ≡ last = cc in
    let none : lines ≡ [] = cc in
    record { front = []; last = b ∷ line; split = ap (λ (ls : Lines). (b ∷ line) ∷ ls) none; some = omega arith; text = ap (λ (bytes : List ℕ). b ∷ bytes) (text ∙ sym same) }
lacks_before b log line last lines (first ∷ front) e some text =
    let same : line ≡ first = cc in
    let others : lines ≡ front ++ last ∷ [] = cc in
    record {
      front = (b ∷ line) ∷ front;
      last = last;
      split = ap (λ (ls : Lines). (b ∷ line) ∷ ls) others;
      some = some;
      text = ap (λ (bytes : List ℕ). b ∷ bytes) (text ∙ ap (λ (l : List ℕ). (l ++ 10 ∷ text_of front) ++ last) (sym same));
    }

byte_before : (b : ℕ) (log : List ℕ) (lines : Lines) → b ≢ 10 → IsLogOf log lines → IsLogOf (b ∷ log) (onto_first b lines)
byte_before b log [] ne is = elim is.text [
  | inl text ↦ record {
    free = ((ne, tt), tt);
    text = inr (record { front = []; last = b ∷ []; split = refl; some = omega arith; text = ap (λ (bytes : List ℕ). b ∷ bytes) text });
  }
  | inr lacks ↦ absurd (none_lacks log lacks)
]
byte_before b log (line ∷ lines) ne is = record {
  free = ((ne, is.free.0), is.free.1);
  text = elim is.text [
    | inl text ↦ inl (ap (λ (bytes : List ℕ). b ∷ bytes) text)
    | inr lacks ↦ inr (lacks_before b log line lacks.last lines lacks.front lacks.split lacks.some lacks.text)
  ];
}

pub is_cut : (log : List ℕ) → IsLogOf log (lines_of log)
is_cut [] = record { free = tt; text = inl refl }
is_cut (b ∷ log) = elim (eq_cases b 10) [
  | inl feed ↦ rw (feed.0, feed.1) (feed_before log (lines_of log) (is_cut log))
  | inr byte ↦ rw byte.0 (byte_before b log (lines_of log) byte.1 (is_cut log))
]
