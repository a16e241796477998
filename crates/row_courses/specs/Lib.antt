pub mod CourseTables
