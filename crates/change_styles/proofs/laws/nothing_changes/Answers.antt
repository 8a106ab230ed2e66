use Rattle.std.proofs.Common.{refl, ap}
use Rattle.change_styles.specs.ThreeStyles.{own_sources, style_over, transitioned_at}
use Rattle.change_styles.proofs.laws.nothing_changes.Goals as goal

pub returns-clause-before : goal.returns-clause-before
returns-clause-before c = λ e old t parent none. ap (λ rs. style_over (own_sources e.declared old (transitioned_at rs t)) parent) none

pub returns-clause-current : goal.returns-clause-current
returns-clause-current c = λ d animated t parent. refl
