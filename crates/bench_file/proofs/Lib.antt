pub mod RuleLaws
pub mod FaultLaws
pub mod PlanLaws
pub mod DraftLaws
pub mod WordLaws
pub mod LimitLaws
pub mod ReadLaws
