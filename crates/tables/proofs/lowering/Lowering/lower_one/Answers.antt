use Rattle.std.proofs.Common.{◌≡◌, take, refl, ap, ◌∙◌, subst, rules}
use Rattle.std.specs.List.{All}
use Rattle.std.proofs.lemmas.Bool.{ltb-true, ltb-false, false≢true}
use Rattle.lines.specs.Lines.{Backed}
use Rattle.tables.specs.Answers.{line_of}
use Rattle.tables.specs.Lowering.{Longest}
use Rattle.tables.specs.Tables.{processes, family}
use Rattle.tables.proofs.Lowered.{lower_none, lowered_one, known_backed}
use Rattle.tables.proofs.lowering.Lowering.lower_one.Goals as goal

pub returns-then-reaches : goal.returns-then-reaches
returns-then-reaches c =
    let s = c.args.self.now in let N = processes s.table.now in let F = family s.table.now in
    record {
      table = refl;
      lower = lower_none N F s.line;
      less = λ e. absurd (false≢true e);
      stays = λ e. (refl, known_backed N F s.line s.needs c.args.process c.requires s.known (c.reaches.ensures.0 c.if-reaches.true));
    }

pub invariant_of-self : goal.invariant_of-self
invariant_of-self c =
    let s = c.args.self.now in let p = c.args.process in let front = c.front-length in
    let N = processes s.table.now in let F = family s.table.now in
    let same : c.first-xs.result.now ≡ take (line_of s.line p) (F p) = c.first-xs.ensures ∙ ap (take (line_of s.line p)) c.intervals.ensures.value in
    let done = lowered_one N F s.line s.needs p front.result.length front.result.needs c.requires (search rules) (search rules) s.rows s.known
    (subst (λ xs. Longest N (line_of s.line) xs front.result.length) same front.ensures.longest)
    (subst (λ xs. All (Backed N (line_of front.result.needs)) (take front.result.length xs)) same front.ensures.needs) in
    record { rows = done.rows; known = done.known }

pub returns : goal.returns
returns c =
    let s = c.args.self.now in let p = c.args.process in let front = c.front-length in
    let N = processes s.table.now in let F = family s.table.now in
    let same : c.first-xs.result.now ≡ take (line_of s.line p) (F p) = c.first-xs.ensures ∙ ap (take (line_of s.line p)) c.intervals.ensures.value in
    let done = lowered_one N F s.line s.needs p front.result.length front.result.needs c.requires (search rules) (search rules) s.rows s.known
    (subst (λ xs. Longest N (line_of s.line) xs front.result.length) same front.ensures.longest)
    (subst (λ xs. All (Backed N (line_of front.result.needs)) (take front.result.length xs)) same front.ensures.needs) in
    record {
      table = refl;
      lower = done.lower;
      less = λ e. done.less (ltb-true front.result.length (line_of s.line p) e);
      stays = λ e. done.stays (ltb-false front.result.length (line_of s.line p) e);
    }
