pub mod Label
pub mod Rules
pub mod RuleLabels
