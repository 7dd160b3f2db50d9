-- what a bench file says: its lines, and the plan that they make
pub mod Settings
pub mod LineMeaning
pub mod PlanOf
-- how values of the code are seen
pub mod ReadingView
