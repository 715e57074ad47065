-- Problems with the answers of another program, written from the same description in Python, computed here by the definitions.
use Rattle.std.proofs.Common.{◌≡◌, ℤ, pos, negsuc, List, [], ◌∷◌, length, Result, Ok, Err, refl}
use Rattle.pa_math.specs.Rational.{over, lowest, ◌+ℚ◌, ◌*ℚ◌, neg_ℚ, reciprocal}
use Rattle.pa_math.specs.Divisors.{gcd_of, lcm_of}
use Rattle.pa_frac.specs.declared.wide.Wide.{Wide}
use Rattle.pa_frac.specs.Operations.{fraction_in, sum_in, difference_in, product_in, comparison_in}
use Rattle.pa_tableau.specs.declared.wide_at.WideAt.{WideAt}
use Rattle.pa_tableau.specs.Arithmetic.{at_width}
use Rattle.pa_tableau.specs.Tableau.{Tableau}
use Rattle.pa_replay.specs.declared.«end».End.{End}
use Rattle.pa_replay.specs.declared.«end».End.TheVariants.{Least, NoWeights, Endless}
use Rattle.pa_replay.specs.declared.«end».SolveFault.{SolveFault}
use Rattle.pa_replay.specs.Problem.{Problem}
use Rattle.pa_replay.specs.Readings.{LeastRead, EndlessRead, least_answer, direction_answer, endless_answer}
use Rattle.pa_replay.specs.Replay.{Ended, replay}

abbrev read : {A : Type 0} → Result A Wide → List A
read (Ok a) = a ∷ []
read (Err wide) = []

abbrev at_least : Problem → Result End SolveFault → Tableau → List LeastRead
at_least p (Ok Least) t = read (least_answer (length p.target) (length p.rows) t)
at_least p (Ok NoWeights) t = []
at_least p (Ok (Endless c)) t = []
at_least p (Err fault) t = []

abbrev least_of : Problem → Result Ended WideAt → List LeastRead
least_of p (Ok ended) = at_least p ended.answer ended.table
least_of p (Err wide) = []

abbrev at_no_weights : Problem → Result End SolveFault → Tableau → List (List ℤ)
at_no_weights p (Ok Least) t = []
at_no_weights p (Ok NoWeights) t = read (direction_answer (length p.target) (length p.rows) t)
at_no_weights p (Ok (Endless c)) t = []
at_no_weights p (Err fault) t = []

abbrev direction_of : Problem → Result Ended WideAt → List (List ℤ)
direction_of p (Ok ended) = at_no_weights p ended.answer ended.table
direction_of p (Err wide) = []

abbrev at_endless : Problem → Result End SolveFault → Tableau → List EndlessRead
at_endless p (Ok Least) t = []
at_endless p (Ok NoWeights) t = []
at_endless p (Ok (Endless c)) t = read (endless_answer (length p.target) (length p.rows) c t)
at_endless p (Err fault) t = []

abbrev endless_of : Problem → Result Ended WideAt → List EndlessRead
endless_of p (Ok ended) = at_endless p ended.answer ended.table
endless_of p (Err wide) = []

-- a least value
problem0 : Problem
problem0 = record { rows = record { c = pos 1 ∷ []; b = pos 1 } ∷ []; target = pos 1 ∷ [] }

answer0 : least_of problem0 (replay (at_width 126) problem0 100) ≡ record {
  weights = record { den = pos 1; parts = (0, pos 1) ∷ [] };
  point =
      (pos 1, pos 1) ∷ [];
  value = (pos 1, pos 1);
} ∷ []
unfolding problem0 over lowest gcd_of ◌+ℚ◌ ◌*ℚ◌ neg_ℚ reciprocal fraction_in sum_in difference_in product_in comparison_in lcm_of
answer0 = refl

-- no weights
problem1 : Problem
problem1 = record { rows = []; target = pos 1 ∷ [] }

answer1 : direction_of problem1 (replay (at_width 126) problem1 100) ≡ (pos 1 ∷ []) ∷ []
unfolding problem1 over lowest gcd_of ◌+ℚ◌ ◌*ℚ◌ neg_ℚ reciprocal fraction_in sum_in difference_in product_in comparison_in lcm_of
answer1 = refl

-- an endless ray
problem2 : Problem
problem2 = record { rows = record { c = pos 0 ∷ []; b = negsuc 0 } ∷ []; target = pos 0 ∷ [] }

answer2 : endless_of problem2 (replay (at_width 126) problem2 100) ≡ record {
  ray = record {
    den = pos 1;
    parts =
        (0, pos 1) ∷ [];
  };
  last = record { den = pos 1; parts = [] };
} ∷ []
unfolding problem2 over lowest gcd_of ◌+ℚ◌ ◌*ℚ◌ neg_ℚ reciprocal fraction_in sum_in difference_in product_in comparison_in lcm_of
answer2 = refl

-- two pivots
problem3 : Problem
problem3 = record { rows = record { c = pos 1 ∷ pos 1 ∷ []; b = pos 3 } ∷ record { c = pos 1 ∷ pos 2 ∷ []; b = pos 4 } ∷ []; target = pos 2 ∷ pos 3 ∷ [] }

answer3 : least_of problem3 (replay (at_width 126) problem3 100) ≡ record {
  weights = record { den = pos 1; parts = (0, pos 1) ∷ (1, pos 1) ∷ [] };
  point =
      (pos 2, pos 1) ∷ (pos 1, pos 1) ∷ [];
  value = (pos 7, pos 1);
} ∷ []
unfolding problem3 over lowest gcd_of ◌+ℚ◌ ◌*ℚ◌ neg_ℚ reciprocal fraction_in sum_in difference_in product_in comparison_in lcm_of
answer3 = refl

-- least: 2 pivots in phase 1, 2 in the drive-out, 1 in phase 2; a line is turned
problem4 : Problem
problem4 = record {
  rows = record { c = pos 1 ∷ pos 1 ∷ pos 1 ∷ []; b = pos 4 } ∷ record { c = pos 2 ∷ pos 0 ∷ pos 0 ∷ []; b = pos 3 } ∷
      record { c = pos 1 ∷ negsuc 1 ∷ negsuc 0 ∷ []; b = negsuc 2 } ∷ record { c = pos 3 ∷ pos 3 ∷ pos 3 ∷ []; b = pos 4 } ∷ [];
  target = pos 1 ∷ negsuc 1 ∷
      negsuc 0 ∷ [];
}

answer4 : least_of problem4 (replay (at_width 126) problem4 100) ≡ record {
  weights = record { den = pos 1; parts = (2, pos 1) ∷ [] };
  point =
      (pos 3, pos 2) ∷ (pos 14, pos 3) ∷ (negsuc 28, pos 6) ∷ [];
  value = (negsuc 2, pos 1);
} ∷ []
unfolding problem4 over lowest gcd_of ◌+ℚ◌ ◌*ℚ◌ neg_ℚ reciprocal fraction_in sum_in difference_in product_in comparison_in lcm_of
answer4 = refl

-- least: 3 pivots in phase 1, 2 in the drive-out, 1 in phase 2
problem5 : Problem
problem5 = record {
  rows = record { c = pos 3 ∷ negsuc 1 ∷ pos 0 ∷ []; b = pos 3 } ∷ record { c = pos 0 ∷ pos 1 ∷ negsuc 0 ∷ []; b = pos 3 } ∷
      record { c = pos 3 ∷ pos 0 ∷ pos 3 ∷ []; b = negsuc 1 } ∷ record { c = pos 1 ∷ pos 3 ∷ pos 0 ∷ []; b = pos 4 } ∷ [];
  target = pos 0 ∷ pos 0 ∷ pos 0 ∷ [];
}

answer5 : least_of problem5 (replay (at_width 126) problem5 100) ≡ record {
  weights = record { den = pos 1; parts = [] };
  point = (pos 3, pos 2) ∷
      (pos 5, pos 6) ∷ (negsuc 12, pos 6) ∷ [];
  value = (pos 0, pos 1);
} ∷ []
unfolding problem5 over lowest gcd_of ◌+ℚ◌ ◌*ℚ◌ neg_ℚ reciprocal fraction_in sum_in difference_in product_in comparison_in lcm_of
answer5 = refl

-- least: 2 pivots in phase 1, 2 in the drive-out, 1 in phase 2
problem6 : Problem
problem6 = record {
  rows = record { c = negsuc 1 ∷ pos 3 ∷ pos 1 ∷ []; b = pos 3 } ∷ record { c = pos 3 ∷ pos 1 ∷ pos 0 ∷ []; b = pos 0 } ∷
      record { c = pos 0 ∷ pos 2 ∷ pos 0 ∷ []; b = negsuc 0 } ∷ record { c = pos 1 ∷ pos 1 ∷ pos 2 ∷ []; b = pos 1 } ∷ [];
  target = pos 0 ∷ pos 0 ∷ pos 0 ∷ [];
}

answer6 : least_of problem6 (replay (at_width 126) problem6 100) ≡ record {
  weights = record { den = pos 1; parts = [] };
  point = (pos 1, pos 6) ∷
      (negsuc 0, pos 2) ∷ (pos 2, pos 3) ∷ [];
  value = (pos 0, pos 1);
} ∷ []
unfolding problem6 over lowest gcd_of ◌+ℚ◌ ◌*ℚ◌ neg_ℚ reciprocal fraction_in sum_in difference_in product_in comparison_in lcm_of
answer6 = refl

-- least: 1 pivots in phase 1, 2 in the drive-out, 1 in phase 2; a line is turned
problem7 : Problem
problem7 = record {
  rows = record { c = negsuc 0 ∷ pos 0 ∷ negsuc 0 ∷ []; b = pos 4 } ∷ record { c = pos 1 ∷ pos 0 ∷ pos 3 ∷ []; b = negsuc 2 } ∷
      record { c = pos 3 ∷ negsuc 1 ∷ pos 2 ∷ []; b = pos 0 } ∷ record { c = negsuc 1 ∷ negsuc 0 ∷ pos 0 ∷ []; b = negsuc 1 } ∷ [];
  target = negsuc 1 ∷ pos 0 ∷
      negsuc 1 ∷ [];
}

answer7 : least_of problem7 (replay (at_width 126) problem7 100) ≡ record {
  weights = record { den = pos 1; parts = (0, pos 2) ∷ [] };
  point =
      (pos 12, pos 5) ∷ (negsuc 13, pos 5) ∷ (negsuc 31, pos 5) ∷ [];
  value = (pos 8, pos 1);
} ∷ []
unfolding problem7 over lowest gcd_of ◌+ℚ◌ ◌*ℚ◌ neg_ℚ reciprocal fraction_in sum_in difference_in product_in comparison_in lcm_of
answer7 = refl

-- least: 2 pivots in phase 1, 1 in the drive-out, 2 in phase 2; a line is turned
problem8 : Problem
problem8 = record {
  rows = record { c = pos 0 ∷ pos 1 ∷ []; b = pos 2 } ∷ record { c = pos 0 ∷ pos 1 ∷ []; b = pos 0 } ∷
      record { c = negsuc 0 ∷ pos 1 ∷ []; b = negsuc 1 } ∷ record { c = pos 1 ∷ pos 1 ∷ []; b = pos 0 } ∷ [];
  target = negsuc 0 ∷ pos 1 ∷ [];
}

answer8 : least_of problem8 (replay (at_width 126) problem8 100) ≡ record {
  weights = record { den = pos 1; parts = (2, pos 1) ∷ [] };
  point =
      (pos 1, pos 1) ∷ (negsuc 0, pos 1) ∷ [];
  value = (negsuc 1, pos 1);
} ∷ []
unfolding problem8 over lowest gcd_of ◌+ℚ◌ ◌*ℚ◌ neg_ℚ reciprocal fraction_in sum_in difference_in product_in comparison_in lcm_of
answer8 = refl

-- least: 3 pivots in phase 1, 1 in the drive-out, 1 in phase 2; an artificial column stays
problem9 : Problem
problem9 = record {
  rows = record { c = pos 0 ∷ pos 1 ∷ pos 0 ∷ []; b = pos 0 } ∷ record { c = pos 1 ∷ pos 1 ∷ pos 0 ∷ []; b = negsuc 1 } ∷
      record { c = pos 2 ∷ pos 1 ∷ pos 0 ∷ []; b = negsuc 1 } ∷ [];
  target = pos 0 ∷ pos 0 ∷ pos 0 ∷ [];
}

answer9 : least_of problem9 (replay (at_width 126) problem9 100) ≡ record {
  weights = record { den = pos 1; parts = [] };
  point = (pos 0, pos 1) ∷
      (negsuc 1, pos 1) ∷ (pos 0, pos 1) ∷ [];
  value = (pos 0, pos 1);
} ∷ []
unfolding problem9 over lowest gcd_of ◌+ℚ◌ ◌*ℚ◌ neg_ℚ reciprocal fraction_in sum_in difference_in product_in comparison_in lcm_of
answer9 = refl

-- least: 0 pivots in phase 1, 2 in the drive-out, 2 in phase 2
problem10 : Problem
problem10 = record {
  rows = record { c = negsuc 1 ∷ pos 2 ∷ []; b = pos 3 } ∷ record { c = pos 1 ∷ negsuc 1 ∷ []; b = pos 1 } ∷
      record { c = pos 0 ∷ negsuc 1 ∷ []; b = pos 4 } ∷ record { c = negsuc 0 ∷ negsuc 0 ∷ []; b = negsuc 2 } ∷ [];
  target = pos 0 ∷ pos 0 ∷ [];
}

answer10 : least_of problem10 (replay (at_width 126) problem10 100) ≡ record {
  weights = record { den = pos 1; parts = [] };
  point = (pos 7, pos 3) ∷
      (pos 2, pos 3) ∷ [];
  value = (pos 0, pos 1);
} ∷ []
unfolding problem10 over lowest gcd_of ◌+ℚ◌ ◌*ℚ◌ neg_ℚ reciprocal fraction_in sum_in difference_in product_in comparison_in lcm_of
answer10 = refl

-- endless: 3 pivots in phase 1, 2 in the drive-out, 0 in phase 2; a line is turned
problem11 : Problem
problem11 = record {
  rows = record { c = pos 1 ∷ negsuc 0 ∷ pos 3 ∷ []; b = negsuc 0 } ∷ record { c = pos 0 ∷ negsuc 0 ∷ pos 2 ∷ []; b = negsuc 1 } ∷
      record { c = negsuc 1 ∷ pos 2 ∷ pos 2 ∷ []; b = negsuc 2 } ∷ record { c = pos 0 ∷ pos 0 ∷ pos 0 ∷ []; b = negsuc 0 } ∷ [];
  target = negsuc 0 ∷ pos 1 ∷
      pos 1 ∷ [];
}

answer11 : endless_of problem11 (replay (at_width 126) problem11 100) ≡ record {
  ray = record {
    den = pos 1;
    parts =
        (3, pos 1) ∷ [];
  };
  last = record { den = pos 2; parts = (2, pos 1) ∷ [] };
} ∷ []
unfolding problem11 over lowest gcd_of ◌+ℚ◌ ◌*ℚ◌ neg_ℚ reciprocal fraction_in sum_in difference_in product_in comparison_in lcm_of
answer11 = refl

-- least: 3 pivots in phase 1, 1 in the drive-out, 2 in phase 2
problem12 : Problem
problem12 = record {
  rows = record { c = pos 3 ∷ pos 0 ∷ []; b = pos 2 } ∷ record { c = pos 3 ∷ pos 1 ∷ []; b = pos 2 } ∷
      record { c = pos 1 ∷ pos 3 ∷ []; b = pos 3 } ∷ record { c = pos 0 ∷ negsuc 1 ∷ []; b = negsuc 1 } ∷ [];
  target = pos 0 ∷ pos 0 ∷ [];
}

answer12 : least_of problem12 (replay (at_width 126) problem12 100) ≡ record {
  weights = record { den = pos 1; parts = [] };
  point = (pos 0, pos 1) ∷
      (pos 1, pos 1) ∷ [];
  value = (pos 0, pos 1);
} ∷ []
unfolding problem12 over lowest gcd_of ◌+ℚ◌ ◌*ℚ◌ neg_ℚ reciprocal fraction_in sum_in difference_in product_in comparison_in lcm_of
answer12 = refl

-- endless: 2 pivots in phase 1, 0 in the drive-out, 2 in phase 2; a line is turned
problem13 : Problem
problem13 = record {
  rows = record { c = pos 1 ∷ pos 0 ∷ []; b = pos 1 } ∷ record { c = negsuc 1 ∷ negsuc 1 ∷ []; b = negsuc 1 } ∷
      record { c = negsuc 0 ∷ pos 3 ∷ []; b = negsuc 0 } ∷ record { c = pos 0 ∷ negsuc 1 ∷ []; b = negsuc 0 } ∷ [];
  target = negsuc 1 ∷ negsuc 1 ∷ [];
}

answer13 : endless_of problem13 (replay (at_width 126) problem13 100) ≡ record {
  ray = record {
    den = pos 2;
    parts = (0, pos 2) ∷ (2, pos 2) ∷
        (3, pos 3) ∷ [];
  };
  last = record { den = pos 1; parts = (2, pos 2) ∷ (3, pos 4) ∷ [] };
} ∷ []
unfolding problem13 over lowest gcd_of ◌+ℚ◌ ◌*ℚ◌ neg_ℚ reciprocal fraction_in sum_in difference_in product_in comparison_in lcm_of
answer13 = refl

-- endless: 2 pivots in phase 1, 0 in the drive-out, 1 in phase 2; an artificial column stays; a line is turned
problem14 : Problem
problem14 = record {
  rows = record { c = negsuc 0 ∷ pos 1 ∷ pos 0 ∷ []; b = pos 4 } ∷ record { c = pos 2 ∷ negsuc 1 ∷ pos 0 ∷ []; b = negsuc 1 } ∷
      record { c = pos 2 ∷ negsuc 1 ∷ negsuc 1 ∷ []; b = pos 4 } ∷ record { c = negsuc 1 ∷ pos 2 ∷ pos 0 ∷ []; b = negsuc 1 } ∷ [];
  target = pos 0 ∷ pos 0 ∷
      negsuc 1 ∷ [];
}

answer14 : endless_of problem14 (replay (at_width 126) problem14 100) ≡ record {
  ray = record {
    den = pos 1;
    parts = (1, pos 1) ∷
        (3, pos 1) ∷ [];
  };
  last = record { den = pos 1; parts = (2, pos 1) ∷ (3, pos 1) ∷ [] };
} ∷ []
unfolding problem14 over lowest gcd_of ◌+ℚ◌ ◌*ℚ◌ neg_ℚ reciprocal fraction_in sum_in difference_in product_in comparison_in lcm_of
answer14 = refl

-- endless: 1 pivots in phase 1, 1 in the drive-out, 0 in phase 2; an artificial column stays; a line is turned
problem15 : Problem
problem15 = record {
  rows = record { c = negsuc 0 ∷ pos 1 ∷ pos 1 ∷ []; b = negsuc 0 } ∷ record { c = pos 2 ∷ pos 1 ∷ negsuc 1 ∷ []; b = negsuc 2 } ∷
      record { c = pos 0 ∷ negsuc 0 ∷ pos 0 ∷ []; b = negsuc 1 } ∷ [];
  target = pos 0 ∷ negsuc 0 ∷ pos 0 ∷ [];
}

answer15 : endless_of problem15 (replay (at_width 126) problem15 100) ≡ record {
  ray = record {
    den = pos 1;
    parts = (0, pos 2) ∷ (1, pos 1) ∷
        (2, pos 3) ∷ [];
  };
  last = record { den = pos 1; parts = (2, pos 1) ∷ [] };
} ∷ []
unfolding problem15 over lowest gcd_of ◌+ℚ◌ ◌*ℚ◌ neg_ℚ reciprocal fraction_in sum_in difference_in product_in comparison_in lcm_of
answer15 = refl

-- endless: 2 pivots in phase 1, 1 in the drive-out, 0 in phase 2; an artificial column stays
problem16 : Problem
problem16 = record {
  rows = record { c = pos 1 ∷ pos 1 ∷ pos 0 ∷ []; b = negsuc 0 } ∷ record { c = pos 1 ∷ pos 0 ∷ pos 3 ∷ []; b = negsuc 0 } ∷
      record { c = pos 0 ∷ pos 0 ∷ pos 0 ∷ []; b = negsuc 2 } ∷ [];
  target = pos 0 ∷ pos 0 ∷ pos 0 ∷ [];
}

answer16 : endless_of problem16 (replay (at_width 126) problem16 100) ≡ record {
  ray = record {
    den = pos 1;
    parts =
        (2, pos 1) ∷ [];
  };
  last = record { den = pos 1; parts = [] };
} ∷ []
unfolding problem16 over lowest gcd_of ◌+ℚ◌ ◌*ℚ◌ neg_ℚ reciprocal fraction_in sum_in difference_in product_in comparison_in lcm_of
answer16 = refl

-- endless: 2 pivots in phase 1, 1 in the drive-out, 1 in phase 2
problem17 : Problem
problem17 = record {
  rows = record { c = pos 0 ∷ negsuc 1 ∷ []; b = pos 0 } ∷ record { c = pos 3 ∷ negsuc 0 ∷ []; b = pos 0 } ∷
      record { c = pos 1 ∷ pos 0 ∷ []; b = pos 1 } ∷ record { c = pos 0 ∷ pos 0 ∷ []; b = negsuc 1 } ∷ [];
  target = pos 2 ∷ pos 0 ∷ [];
}

answer17 : endless_of problem17 (replay (at_width 126) problem17 100) ≡ record {
  ray = record {
    den = pos 1;
    parts =
        (3, pos 1) ∷ [];
  };
  last = record { den = pos 1; parts = (2, pos 2) ∷ [] };
} ∷ []
unfolding problem17 over lowest gcd_of ◌+ℚ◌ ◌*ℚ◌ neg_ℚ reciprocal fraction_in sum_in difference_in product_in comparison_in lcm_of
answer17 = refl

-- endless: 1 pivots in phase 1, 1 in the drive-out, 1 in phase 2; a line is turned
problem18 : Problem
problem18 = record {
  rows = record { c = negsuc 1 ∷ negsuc 0 ∷ []; b = pos 4 } ∷ record { c = negsuc 0 ∷ pos 0 ∷ []; b = negsuc 1 } ∷
      record { c = pos 0 ∷ negsuc 0 ∷ []; b = pos 3 } ∷ record { c = pos 0 ∷ pos 0 ∷ []; b = negsuc 0 } ∷ [];
  target = pos 0 ∷ negsuc 0 ∷ [];
}

answer18 : endless_of problem18 (replay (at_width 126) problem18 100) ≡ record {
  ray = record {
    den = pos 1;
    parts =
        (3, pos 1) ∷ [];
  };
  last = record { den = pos 1; parts = (2, pos 1) ∷ [] };
} ∷ []
unfolding problem18 over lowest gcd_of ◌+ℚ◌ ◌*ℚ◌ neg_ℚ reciprocal fraction_in sum_in difference_in product_in comparison_in lcm_of
answer18 = refl

-- endless: 0 pivots in phase 1, 1 in the drive-out, 2 in phase 2
problem19 : Problem
problem19 = record {
  rows = record { c = negsuc 0 ∷ []; b = pos 4 } ∷ record { c = negsuc 1 ∷ []; b = negsuc 2 } ∷
      record { c = negsuc 0 ∷ []; b = negsuc 1 } ∷ record { c = pos 0 ∷ []; b = negsuc 0 } ∷ [];
  target = pos 0 ∷ [];
}

answer19 : endless_of problem19 (replay (at_width 126) problem19 100) ≡ record {
  ray = record {
    den = pos 1;
    parts =
        (3, pos 1) ∷ [];
  };
  last = record { den = pos 1; parts = [] };
} ∷ []
unfolding problem19 over lowest gcd_of ◌+ℚ◌ ◌*ℚ◌ neg_ℚ reciprocal fraction_in sum_in difference_in product_in comparison_in lcm_of
answer19 = refl

-- no weights
problem20 : Problem
problem20 = record {
  rows = record { c = pos 1 ∷ negsuc 1 ∷ pos 3 ∷ []; b = pos 0 } ∷ record { c = negsuc 1 ∷ pos 0 ∷ negsuc 0 ∷ []; b = pos 2 } ∷
      [];
  target = pos 0 ∷ negsuc 0 ∷ pos 0 ∷ [];
}

answer20 : direction_of problem20 (replay (at_width 126) problem20 100) ≡ (pos 2 ∷ negsuc 4 ∷ negsuc 3 ∷ []) ∷ []
unfolding problem20 over lowest gcd_of ◌+ℚ◌ ◌*ℚ◌ neg_ℚ reciprocal fraction_in sum_in difference_in product_in comparison_in lcm_of
answer20 = refl

-- no weights
problem21 : Problem
problem21 = record { rows = []; target = pos 1 ∷ negsuc 0 ∷ negsuc 1 ∷ [] }

answer21 : direction_of problem21 (replay (at_width 126) problem21 100) ≡ (pos 1 ∷ negsuc 0 ∷ negsuc 0 ∷ []) ∷ []
unfolding problem21 over lowest gcd_of ◌+ℚ◌ ◌*ℚ◌ neg_ℚ reciprocal fraction_in sum_in difference_in product_in comparison_in lcm_of
answer21 = refl
